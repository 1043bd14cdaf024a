-- `fill` and `peek`: the memory of the thread's process.
use Rattle.std.specs.Prelude.{ℕ, pos, ◌+◌, nat_lt, if◌then◌else◌, [], ◌∷◌}
use Rattle.sym_base.specs.declared.error.Error.TheVariants.{Argument}
use Rattle.sym_base.specs.declared.number.ObjNo.{ObjNo}
use Rattle.sym_base.specs.declared.word.Word.TheVariants as word
use Rattle.entry_log.specs.declared.step.Part.TheVariants.{Do}
use Rattle.entry_log.specs.declared.step.Step.TheVariants.{Of}
use Rattle.state_rows.specs.declared.thread.ThreadRow.{ThreadRow}
use Rattle.machine.specs.declared.decision.Decision.{Decision}
use Rattle.machine.specs.declared.moves.Move.TheVariants.{Fill}
use Rattle.machine.specs.declared.state.State.{State}
use Rattle.machine.specs.Decide.{answer, refuse}
use Rattle.machine.specs.Memory.{byte_of}

-- past the memory's end: a bad argument; else the bytes have the value
abbrev pub fill_do : ObjNo → ThreadRow → ℕ → ℕ → ℕ → Decision
fill_do t row at length byte =
    if nat_lt 1024 (at + length) then refuse t (Of word.Fill Do) Argument
    else answer t (Of word.Fill Do) (Fill row.process at length byte ∷ []) (pos 0)

-- the byte is answered
abbrev pub peek_do : State → ObjNo → ThreadRow → ℕ → Decision
peek_do S t row at = answer t (Of word.Peek Do) [] (pos (byte_of S.services.memories row.process at))
