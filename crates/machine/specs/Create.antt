-- `create`: a new object and a handle of it.
use Rattle.std.specs.Prelude.{ℕ, if◌then◌else◌, List, [], ◌∷◌, Option, Some, None}
use Rattle.state_rows.specs.ObjectRows.{is_taken}
use Rattle.sym_base.specs.declared.error.Error.TheVariants.{AlreadyExists, Overflow}
use Rattle.sym_base.specs.declared.kind.Kind.{Kind}
use Rattle.sym_base.specs.declared.kind.Kind.TheVariants.{Mutex, Semaphore}
use Rattle.sym_base.specs.declared.number.ObjNo.{ObjNo}
use Rattle.sym_base.specs.declared.word.Word.TheVariants.{Create}
use Rattle.entry_log.specs.declared.step.Step.TheVariants.{Of}
use Rattle.entry_log.specs.declared.step.Part.TheVariants.{Do}
use Rattle.machine.specs.declared.decision.Decision.{Decision}
use Rattle.machine.specs.declared.handles.NewHandle.{NewHandle}
use Rattle.machine.specs.declared.lock_move.LockMove.{LockMove}
use Rattle.machine.specs.declared.lock_move.LockMove.TheVariants.{Start}
use Rattle.machine.specs.declared.moves.Move.{Move}
use Rattle.machine.specs.declared.moves.Move.TheVariants.{Make, Locks}
use Rattle.state_rows.specs.declared.thread.ThreadRow.{ThreadRow}
use Rattle.machine.specs.declared.state.State.{State}
use Rattle.machine.specs.Handles.{process_handle}
use Rattle.machine.specs.Moves.{no_number_left, next_object}
use Rattle.machine.specs.Decide.{refuse, answer_handle}

-- what follows the making of an object: nothing, or a semaphore's start
abbrev pub start_moves : Option LockMove → List Move
start_moves None = []
start_moves (Some start) = Locks start ∷ []

-- handles full: an overflow; else the object is made with its handle
abbrev pub make_with_handle : ObjNo → Kind → List ℕ → Option LockMove → ℕ → Option NewHandle → Decision
make_with_handle t kind name start x None = refuse t (Of Create Do) Overflow
make_with_handle t kind name start x (Some handle) =
    answer_handle t (Of Create Do) (Make kind name handle.holder ∷ start_moves start) x handle.number

-- the name is taken: it exists already; objects full: an overflow
abbrev pub create_do : State → ObjNo → ThreadRow → Kind → List ℕ → Option LockMove → ℕ → Decision
create_do S t row kind name start x =
    if is_taken kind name S.references.objects then refuse t (Of Create Do) AlreadyExists
    else if no_number_left S then refuse t (Of Create Do) Overflow
    else make_with_handle t kind name start x (process_handle S row.process)

abbrev pub create_mutex_do : State → ObjNo → ThreadRow → List ℕ → ℕ → Decision
create_mutex_do S t row name x = create_do S t row Mutex name None x

-- a semaphore starts with a count
abbrev pub create_semaphore_do : State → ObjNo → ThreadRow → List ℕ → ℕ → ℕ → Decision
create_semaphore_do S t row name count x = create_do S t row Semaphore name (Some (Start (next_object S) count)) x
