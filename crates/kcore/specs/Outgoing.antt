-- The notes that are out belong to the threads that are out.
use Rattle.std.specs.Prelude.{◌≡◌, ◌<◌, Bool, true, false, List, [], length, Some}
use Rattle.sym_base.specs.declared.number.ObjNo.{ObjNo}
use Rattle.entry_log.specs.declared.entry.Entry.{Entry}
use Rattle.ref_words.specs.declared.slip.Slip.{Slip}
use Rattle.machine.specs.declared.state.State.{State}
use Rattle.machine.specs.Out.{seeks}
use Rattle.machine.specs.Rows.{thread_of}
use Rattle.machine_safe.specs.FindsAndReturns.{away}
use Rattle.table_moves.specs.Notes.{Notes, IsNoteOut}
use Rattle.kcore.specs.Finds.{finder, finders}

-- a note whose number is that of a find of a thread, which is still out on an object of its place
pub record IsNoteOf (history : List Entry) (S : State) (s : Slip) : Type 0 where
  pub thread : ObjNo
  pub found : ObjNo
  pub its : finder s.number history ≡ Some thread
  pub away : 0 < seeks found s.place (thread_of S thread)

-- As many notes were made as objects were found, and as many are out as threads. Each that is out is of a thread that is, which has no other.
pub record AreNotes (history : List Entry) (S : State) (notes : Notes) : Type 0 where
  pub made : notes.made ≡ length (finders history)
  pub many : length notes.out ≡ away S
  pub each : (s : Slip) → IsNoteOut notes s → IsNoteOf history S s
  pub once : (s r : Slip) → IsNoteOut notes s → IsNoteOut notes r → finder s.number history ≡ finder r.number history → s ≡ r

-- no note was made, and none is out
pub record AreNone (notes : Notes) : Type 0 where
  pub made : notes.made ≡ 0
  pub out : notes.out ≡ []

-- so it is where one caller calls the kernel alone
abbrev pub AreOutgoing : Bool → List Entry → State → Notes → Type 0
AreOutgoing false history S notes = AreNone notes
AreOutgoing true history S notes = AreNotes history S notes
