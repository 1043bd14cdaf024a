-- What an action chooses, where callers share the kernel: whether an object stays of which it closes the last reference. The words of the
-- objects' table decide it, and the choice is read afterwards: it stands open until an object dies.
use Rattle.std.specs.Prelude.{◌≡◌, ℕ, ◌<◌, true, false, Option, Some, None}
use Rattle.sym_base.specs.declared.number.ObjNo.{ObjNo}
use Rattle.state_rows.specs.declared.duty.Owed.TheVariants.{Close}
use Rattle.machine.specs.declared.mode.Mode.{Mode}
use Rattle.machine.specs.declared.moves.Move.{Move}
use Rattle.machine.specs.declared.moves.Move.TheVariants.{Lose, Pay}
use Rattle.machine.specs.declared.state.State.{State}
use Rattle.machine.specs.Out.{seeks}
use Rattle.machine.specs.Rows.{object_of, thread_of}
use Rattle.state_rows.specs.ObjectRows.{place_of}
use Rattle.table_moves.specs.Notes.{Notes, HasNoteOf}
use Rattle.table_moves.specs.ObjectsView.{IsThere}

-- 1 for a move that gives a reference up, its thread's own or one that is owed
abbrev pub closing_bit : Move → ℕ
closing_bit (Lose h o) = 1
closing_bit (Pay (Close h o)) = 1
closing_bit _ = 0

-- an action by which an object died keeps nothing
abbrev pub mode_after : Option ObjNo → Mode → Mode
mode_after None mode = mode
mode_after (Some o) mode = record mode { keep = false }

-- callers share the kernel, and the next action keeps what it closes
abbrev pub sharing : State → State
sharing S = record S { mode = record S.mode { shared = true; keep = true } }

-- callers share the kernel, and this thread is out on an object: on the one that has the number now
pub record IsSoughtBy (S : State) (u o : ObjNo) : Type 0 where
  pub shared : S.mode.shared ≡ true
  pub out : 0 < seeks o (place_of (object_of S o)) (thread_of S u)

-- of each object of whose place a note is out, somebody is out on it; and somebody beside thread t
abbrev pub AreSought : Notes → State → Type 0
AreSought notes S = (o : ObjNo) → IsThere (object_of S o) → HasNoteOf notes (place_of (object_of S o)) → (u : ObjNo) × IsSoughtBy S u o

abbrev pub AreSoughtBeside : ObjNo → Notes → State → Type 0
AreSoughtBeside t notes S = (o : ObjNo) → IsThere (object_of S o) → HasNoteOf notes (place_of (object_of S o))
    → (u : ObjNo) × IsSoughtBy S u o × (u.0 ≡ t.0 → ⊥)

-- notes are of places of objects that were made
abbrev pub AreNotesMade : Notes → State → Type 0
AreNotesMade notes S = (p : ℕ) → HasNoteOf notes p → p < S.references.made

-- a reference may be given up: nothing is chosen yet, and of each object of which a note is out somebody is out on it
abbrev pub MayClose : Notes → State → Type 0
MayClose notes S = (S.mode.keep ≡ S.mode.shared) × AreSought notes S

-- where numbers are used again, the words have a place for one object more
abbrev pub HasRoom : Notes → State → Type 0
HasRoom notes S = S.mode.reuse ≡ true → S.references.made < notes.places

-- an action of thread t may begin: its choice is open, the words have a place for what it makes, notes are of places of objects that were made, and
-- the others who are out account for them
pub record MayChoose (t : ObjNo) (notes : Notes) (S : State) : Type 0 where
  pub unchosen : S.mode.keep ≡ S.mode.shared
  pub room : HasRoom notes S
  pub made : AreNotesMade notes S
  pub sought : AreSoughtBeside t notes S
