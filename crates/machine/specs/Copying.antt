-- `read` and `write`: a server copies bytes from its client's memory to its own process's, or the other way. A copy goes in pieces of at most 64
-- bytes, one a step.
use Rattle.std.specs.Prelude.{ℕ, ℤ, pos, min, [], ◌∷◌, Option, Some, None}
use Rattle.sym_base.specs.declared.error.Error.TheVariants as error
use Rattle.sym_base.specs.declared.number.ObjNo.{ObjNo}
use Rattle.sym_base.specs.declared.word.Word.TheVariants as word
use Rattle.entry_log.specs.declared.step.Part.{Part}
use Rattle.entry_log.specs.declared.step.Part.TheVariants as part
use Rattle.entry_log.specs.declared.step.Step.{Step}
use Rattle.entry_log.specs.declared.step.Step.TheVariants.{Of}
use Rattle.state_rows.specs.declared.messages.Message.{Message}
use Rattle.state_rows.specs.declared.thread.ThreadRow.{ThreadRow}
use Rattle.copy_rules.specs.declared.ends.Ends.{Ends}
use Rattle.copy_rules.specs.declared.job.CopyMove.{CopyMove}
use Rattle.copy_rules.specs.declared.job.CopyMove.TheVariants.{Read, Write}
use Rattle.copy_rules.specs.declared.job.Job.{Job}
use Rattle.copy_rules.specs.declared.job.Piece.{Piece}
use Rattle.copy_rules.specs.declared.job.Piece.TheVariants.{More, Whole, BadDescriptor, Argument, Overflow, Died}
use Rattle.copy_rules.specs.Ends.{ends_between}
use Rattle.copy_rules.specs.Pieces.{read_answer, write_answer}
use Rattle.copy_rules.specs.Sizes.{read_size, write_size}
use Rattle.machine.specs.declared.decision.Decision.{Decision}
use Rattle.machine.specs.declared.moves.Move.TheVariants.{Copies, GoOn, Keep}
use Rattle.machine.specs.declared.state.State.{State}
use Rattle.machine.specs.Decide.{nothing, answer, refuse}
use Rattle.machine.specs.Rows.{thread_of}
use Rattle.machine.specs.ServerCalls.{message_at}

-- what a whole copy answers: a read the number of its bytes, a write 0
abbrev pub whole_answer : CopyMove → ℕ → ℤ
whole_answer (Read job) size = pos size
whole_answer (Write job) size = pos 0

-- a piece by what it answers: bytes are left, and the thread keeps how many are copied; or the copy is whole; or it is refused
abbrev pub copy_piece : ObjNo → Step → CopyMove → Piece → Decision
copy_piece t step copy (More done) = record { step = step; moves = Copies copy ∷ GoOn t part.Piece ∷ Keep t done ∷ []; answer = None }
copy_piece t step copy (Whole size) = answer t step (Copies copy ∷ []) (whole_answer copy size)
copy_piece t step copy BadDescriptor = refuse t step error.BadDescriptor
copy_piece t step copy Argument = refuse t step error.Argument
copy_piece t step copy Overflow = refuse t step error.Overflow
copy_piece t step copy Died = refuse t step error.Died

-- the ends of a copy between a message's client and a thread of this row
abbrev pub message_ends : State → ThreadRow → Message → ℕ → Ends
message_ends S row message arg = ends_between (thread_of S message.row.client) (Some row) message.row arg

-- a copy whose earlier pieces copied no bytes yet
abbrev pub first_job : ObjNo → Message → ℕ → ℕ → ℕ → ℕ → Job
first_job t message arg offset len at = record { caller = t; m = message.number; arg = arg; offset = offset; len = len; at = at; done = 0 }

-- the next piece of a copy of so many bytes: the earlier ones copied what the thread keeps, and no more than all
abbrev pub next_job : ThreadRow → Job → ℕ → Job
next_job row job size = record job { done = min row.found size }

abbrev pub read_with : ObjNo → Ends → Job → Decision
read_with t ends job = copy_piece t (Of word.Read part.Piece) (Read job) (read_answer ends job)

abbrev pub read_next : ObjNo → ThreadRow → Ends → Job → Decision
read_next t row ends job = read_with t ends (next_job row job (read_size ends job))

-- no message that a server of the thread took: a bad handle; else the next piece
abbrev pub read_from : State → ObjNo → ThreadRow → ℕ → ℕ → ℕ → ℕ → Option Message → Decision
read_from S t row arg offset len at None = refuse t (Of word.Read part.Piece) error.BadHandle
read_from S t row arg offset len at (Some message) = read_next t row (message_ends S row message arg) (first_job t message arg offset len at)

abbrev pub read_piece : State → ObjNo → ThreadRow → ℕ → ℕ → ℕ → ℕ → ℕ → Decision
read_piece S t row y arg offset len at = read_from S t row arg offset len at (message_at S t row y)

-- the same of a write
abbrev pub write_with : ObjNo → Ends → Job → Decision
write_with t ends job = copy_piece t (Of word.Write part.Piece) (Write job) (write_answer ends job)

abbrev pub write_next : ObjNo → ThreadRow → Ends → Job → Decision
write_next t row ends job = write_with t ends (next_job row job (write_size job))

abbrev pub write_from : State → ObjNo → ThreadRow → ℕ → ℕ → ℕ → ℕ → Option Message → Decision
write_from S t row arg offset len at None = refuse t (Of word.Write part.Piece) error.BadHandle
write_from S t row arg offset len at (Some message) = write_next t row (message_ends S row message arg) (first_job t message arg offset len at)

abbrev pub write_piece : State → ObjNo → ThreadRow → ℕ → ℕ → ℕ → ℕ → ℕ → Decision
write_piece S t row y arg offset len at = write_from S t row arg offset len at (message_at S t row y)

-- a copy has no last step of another kind
abbrev pub unless_done : Option Part → Decision → Decision
unless_done (Some part.Done) d = nothing
unless_done p d = d

abbrev pub read_step : State → ObjNo → ThreadRow → ℕ → ℕ → ℕ → ℕ → ℕ → Option Part → Decision
read_step S t row y arg offset len at p = unless_done p (read_piece S t row y arg offset len at)

abbrev pub write_step : State → ObjNo → ThreadRow → ℕ → ℕ → ℕ → ℕ → ℕ → Option Part → Decision
write_step S t row y arg offset len at p = unless_done p (write_piece S t row y arg offset len at)
