-- The definition of safe waits, tried on histories, changed by hand, in which somebody waits by mistake.
use Rattle.std.proofs.Common.{None, [], refl, ◌∷◌}
use Rattle.entry_log.specs.declared.entry.Actor.TheVariants.{Irq}
use Rattle.entry_log.specs.declared.entry.Entry.{Entry}
use Rattle.entry_log.specs.declared.step.Step.TheVariants as step
use Rattle.machine_safe.proofs.ServedHistory.{acts, serves}
use Rattle.machine_safe.specs.SafeWaits.{IsSafeWaits}

-- No thread waits so, at a `receive` or elsewhere.
abbrev server_waits : Entry
server_waits = acts 2 3 step.Wait [] None

waits_at_receive : IsSafeWaits (serves ∷ server_waits ∷ []) → ⊥
waits_at_receive safe = let idle = safe.idle (serves ∷ []) server_waits [] refl refl in absurd (cc)

-- Nor does an interrupt.
abbrev interrupt_waits : Entry
interrupt_waits = record { place = 1; actor = Irq 1; step = step.Wait; effects = []; answer = None }

waits_as_interrupt : IsSafeWaits (interrupt_waits ∷ []) → ⊥
waits_as_interrupt safe = let idle = safe.idle [] interrupt_waits [] refl refl in absurd (cc)
