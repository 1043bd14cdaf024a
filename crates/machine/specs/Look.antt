-- The first step of the instructions that name an object by a handle.
use Rattle.std.specs.Prelude.{ℕ, ◌==◌, Bool, false, if◌then◌else◌, Option, Some, None, slice_index}
use Rattle.sym_base.specs.declared.error.Error.TheVariants.{BadHandle}
use Rattle.sym_base.specs.declared.kind.Kind.{Kind}
use Rattle.sym_base.specs.KindNumber.{kind_number}
use Rattle.sym_base.specs.declared.number.ObjNo.{ObjNo}
use Rattle.sym_base.specs.declared.word.Word.{Word}
use Rattle.entry_log.specs.declared.effect.Holder.TheVariants.{Temp}
use Rattle.entry_log.specs.declared.step.Step.TheVariants.{Of}
use Rattle.entry_log.specs.declared.step.Part.TheVariants.{Do, Look}
use Rattle.state_rows.specs.declared.object.ObjectRow.{ObjectRow}
use Rattle.machine.specs.declared.decision.Decision.{Decision}
use Rattle.machine.specs.declared.moves.Move.TheVariants.{Gain}
use Rattle.state_rows.specs.declared.thread.ThreadRow.{ThreadRow}
use Rattle.machine.specs.declared.state.State.{State}
use Rattle.machine.specs.Rows.{object_of}
use Rattle.machine.specs.Handles.{object_at}
use Rattle.machine.specs.Decide.{refuse, go_on}

-- no such handle: a bad handle; else the thread uses the object from now on
abbrev pub look_at : ObjNo → Word → Option ObjNo → Decision
look_at t word None = refuse t (Of word Look) BadHandle
look_at t word (Some o) = go_on t (Of word Look) (Gain (Temp t) o) Do

-- the look at the handle in a register
abbrev pub look : State → ObjNo → ThreadRow → Word → ℕ → Decision
look S t row word x = look_at t word (object_at S t row (slice_index row.registers x))

-- whether an object is of a kind
abbrev pub is_of_kind : Kind → Option ObjectRow → Bool
is_of_kind kind None = false
is_of_kind kind (Some row) = kind_number row.kind == kind_number kind

-- an object, where it is of a kind
abbrev pub of_kind : State → Kind → Option ObjNo → Option ObjNo
of_kind S kind None = None
of_kind S kind (Some o) = if is_of_kind kind (object_of S o) then Some o else None

-- the look at the handle in a register, which has to be of an object of this kind
abbrev pub look_kind : State → ObjNo → ThreadRow → Kind → Word → ℕ → Decision
look_kind S t row kind word x = look_at t word (of_kind S kind (object_at S t row (slice_index row.registers x)))
