-- Nobody is chosen exactly where nobody could act.
use Rattle.std.specs.Prelude.{◌≡◌, Bool, List}
use Rattle.script_types.specs.declared.script.Script.{Script}
use Rattle.entry_log.specs.declared.entry.Actor.TheVariants.{Idle}
use Rattle.entry_log.specs.declared.entry.Entry.{Entry}
use Rattle.machine.specs.Arrived.{arrived_in}
use Rattle.machine.specs.Choice.{chosen}
use Rattle.machine.specs.History.{after_in, IsIdle}

-- after a history, where nobody is chosen nobody could act, and where nobody could act nobody is chosen
pub record IsIdleChoice (shared : Bool) (script : Script) (history : List Entry) : Type 0 where
  pub idle : chosen (after_in shared script history) (arrived_in shared script history) ≡ Idle → IsIdle script (after_in shared script history)
  pub chosen : IsIdle script (after_in shared script history) → chosen (after_in shared script history) (arrived_in shared script history) ≡ Idle
