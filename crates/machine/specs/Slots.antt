-- The slots that a schedule may have.
use Rattle.std.specs.Prelude.{ℕ, ◌==◌, Bool, IsTrue}
use Rattle.std.specs.List.{list_any}
use Rattle.script_types.specs.declared.script.Script.{Script}
use Rattle.script_types.specs.declared.script.Slot.{Slot}
use Rattle.script_types.specs.declared.script.Slot.TheVariants.{Go, Irq, Tick}

-- whether a script declares an interrupt of this number
abbrev pub declares_interrupt : Script → ℕ → Bool
declares_interrupt script k = list_any (λ irq. irq.number == k) script.irqs

-- a slot's interrupt is declared
abbrev pub IsDeclared : Script → Slot → Type 0
IsDeclared script Go = Unit {0}
IsDeclared script (Irq k) = IsTrue (declares_interrupt script k)
IsDeclared script Tick = Unit {0}
