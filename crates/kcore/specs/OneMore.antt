-- What a call leaves where callers share the kernel.
use Rattle.std.specs.Prelude.{◌≡◌, ◌+◌, true, false, List, [], ◌∷◌, ◌++◌, length, Option, Some, IfSome}
use Rattle.sym_base.specs.declared.number.ObjNo.{ObjNo}
use Rattle.script_types.specs.declared.script.Script.{Script}
use Rattle.entry_log.specs.declared.entry.Actor.{Actor}
use Rattle.entry_log.specs.declared.entry.Actor.TheVariants.{Thread}
use Rattle.entry_log.specs.declared.entry.Entry.{Entry}
use Rattle.ref_words.specs.declared.slip.Slip.{Slip}
use Rattle.machine.specs.History.{after_in, choosing, entry_by}
use Rattle.machine.specs.SharedRun.{is_return}
use Rattle.kcore.specs.Finds.{finder, note_of}

-- the history is longer by one entry: what the actor does in the state after the history before, with the choice that the entry tells
pub record OneMore (script : Script) (old new : List Entry) (actor : Actor) : Type 0 where
  pub entry : Entry
  pub longer : new ≡ old ++ entry ∷ []
  pub told : entry ≡ entry_by script (choosing entry (after_in true script old)) (length old + 1) actor

-- an actor is the thread whose find a note numbers
pub record IsFinder (history : List Entry) (actor : Actor) (s : Slip) : Type 0 where
  pub thread : ObjNo
  pub acts : actor ≡ Thread thread
  pub its : finder s.number history ≡ Some thread

-- and it is no return; and a note went out, exactly if the entry finds an object: its actor's
pub record SendsOut (script : Script) (old new : List Entry) (actor : Actor) (sent : Option Slip) : Type 0 where
  pub more : OneMore script old new actor
  pub forth : is_return more.entry.step ≡ false
  pub note : sent ≡ note_of (after_in true script new) new more.entry.effects
  pub finder : IfSome sent (IsFinder new actor)

-- or the entry is the return of a thread
pub record ReturnsBy (script : Script) (old new : List Entry) (t : ObjNo) : Type 0 where
  pub more : OneMore script old new (Thread t)
  pub back : is_return more.entry.step ≡ true
