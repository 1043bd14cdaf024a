-- What an action leaves of a machine where callers share the kernel. It keeps what it closes if somebody is out on that, or it doesn't.
use Rattle.std.specs.Prelude.{◌≡◌, ◌+◌, Bool, true, List, [], ◌∷◌, ◌++◌, length}
use Rattle.sym_base.specs.declared.number.ObjNo.{ObjNo}
use Rattle.script_types.specs.declared.script.Script.{Script}
use Rattle.entry_log.specs.declared.entry.Actor.{Actor}
use Rattle.entry_log.specs.declared.entry.Entry.{Entry}
use Rattle.machine.specs.History.{after_in, entry_by, keeping, CanAct}
use Rattle.machine.specs.declared.state.State.{State}
use Rattle.plain_machine.specs.PlainView.{IsPlain}

-- a state in which callers share the kernel, with this choice
abbrev pub choice_made : Bool → State → State
choice_made keep S = record S { mode = record S.mode { shared = true; keep = keep } }

-- an actor acted with this choice: behind the history stands the entry of the definitions, and the state and the ready list are those after it
pub record IsMade (script : Script) (old new : List Entry) (actor : Actor) (keep : Bool) (T : State) (list : List ObjNo) (e : Entry) : Type 0 where
  pub plain : IsPlain script new T list
  pub shared : T.mode.shared ≡ true
  pub history : new ≡ old ++ e ∷ []
  pub entry : e ≡ entry_by script (keeping keep (after_in true script old)) (length old + 1) actor

-- an actor may not act, and the history is as before
pub record IsBarred (script : Script) (old new : List Entry) (actor : Actor) : Type 0 where
  pub history : new ≡ old
  pub cannot : CanAct script (after_in true script old) actor → ⊥
