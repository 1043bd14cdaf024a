-- What a contract sees of the plain machine, and what holds of its parts.
use Rattle.std.specs.Prelude.{◌≡◌, Bool, List}
use Rattle.sym_base.specs.declared.number.ObjNo.{ObjNo}
use Rattle.script_types.specs.declared.script.Script.{Script}
use Rattle.script_types.specs.Source.{IsWellFormed}
use Rattle.entry_log.specs.declared.entry.Entry.{Entry}
use Rattle.machine.specs.declared.state.State.{State}
use Rattle.machine.specs.Arrived.{arrived_in}
use Rattle.machine.specs.History.{after_in, IsLegalIn}

-- the script that runs, what happened so far, and whether callers shared the kernel in it
pub record PlainView : Type 0 where
  pub script : Script
  pub history : List Entry
  pub shared : Bool

-- the script is valid, the history is one of it, and the state and the ready list are those after it
pub record IsPlain (script : Script) (history : List Entry) (S : State) (qs : List ObjNo) : Type 0 where
  pub valid : IsWellFormed script
  pub legal : IsLegalIn S.mode.shared script history
  pub state : S ≡ after_in S.mode.shared script history
  pub ready : qs ≡ arrived_in S.mode.shared script history
