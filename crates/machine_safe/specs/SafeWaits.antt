-- Safe waits: nobody waits by mistake. The step in which nobody acts is of the actor idle alone. This is read off the history alone.
use Rattle.std.specs.Prelude.{◌≡◌, List}
use Rattle.entry_log.specs.declared.entry.Actor.TheVariants.{Idle}
use Rattle.entry_log.specs.declared.entry.Entry.{Entry}
use Rattle.entry_log.specs.declared.step.Step.TheVariants.{Wait}
use Rattle.machine_safe.specs.SafeDeaths.{StandsAt}

pub record IsSafeWaits (history : List Entry) : Type 0 where
  pub idle : (before : List Entry) (e : Entry) (later : List Entry) → StandsAt history before e later → e.step ≡ Wait → e.actor ≡ Idle
