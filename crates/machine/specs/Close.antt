-- `close`: the handle goes, and with it a reference.
use Rattle.std.specs.Prelude.{ℕ, pos, Option, Some, None, slice_index}
use Rattle.sym_base.specs.declared.error.Error.TheVariants.{BadHandle}
use Rattle.sym_base.specs.declared.number.ObjNo.{ObjNo}
use Rattle.sym_base.specs.declared.word.Word.TheVariants.{Close}
use Rattle.entry_log.specs.declared.step.Step.TheVariants.{Of}
use Rattle.entry_log.specs.declared.step.Part.TheVariants.{Do}
use Rattle.machine.specs.declared.decision.Decision.{Decision}
use Rattle.state_rows.specs.declared.thread.ThreadRow.{ThreadRow}
use Rattle.machine.specs.declared.state.State.{State}
use Rattle.machine.specs.Closing.{close_moves}
use Rattle.machine.specs.Handles.{holder_of, object_at}
use Rattle.machine.specs.Decide.{answer, refuse}

-- no such handle: a bad handle; else it is closed
abbrev pub close_handle : State → ObjNo → ThreadRow → ℕ → Option ObjNo → Decision
close_handle S t row handle None = refuse t (Of Close Do) BadHandle
close_handle S t row handle (Some o) = answer t (Of Close Do) (close_moves S t (holder_of t row handle) o) (pos 0)

-- the close of the handle in a register
abbrev pub close_do : State → ObjNo → ThreadRow → ℕ → Decision
close_do S t row x = close_handle S t row (slice_index row.registers x) (object_at S t row (slice_index row.registers x))
