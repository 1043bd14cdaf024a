-- Moves in the rows of messages: what each changes, what it tells, and what is owed after it.
use Rattle.std.specs.Prelude.{List, [], ◌∷◌, Option, Some, None}
use Rattle.sym_base.specs.declared.number.ObjNo.{ObjNo}
use Rattle.entry_log.specs.declared.effect.Effect.{Effect}
use Rattle.entry_log.specs.declared.effect.Effect.TheVariants as effect
use Rattle.entry_log.specs.declared.effect.Holder.TheVariants as holder
use Rattle.state_rows.specs.declared.duty.Owed.{Owed}
use Rattle.state_rows.specs.declared.duty.Owed.TheVariants as owed
use Rattle.state_rows.specs.declared.messages.Message.{Message}
use Rattle.state_rows.specs.declared.messages.MessageRows.{MessageRows}
use Rattle.state_rows.specs.MessageRows.{message_of}
use Rattle.state_rows.specs.MessageChanges.{next_number, added, after_take, after_finish}
use Rattle.machine.specs.declared.message_move.MessageMove.{MessageMove}
use Rattle.machine.specs.declared.message_move.MessageMove.TheVariants.{Accept, Take, Finish}
use Rattle.machine.specs.Rows.{owing}

-- the rows after a move
abbrev pub messages_moved : MessageMove → MessageRows → MessageRows
messages_moved (Accept slots row) r = added r slots row
messages_moved (Take o) r = after_take r o
messages_moved (Finish m code) r = after_finish r m

-- what it tells: a message that is accepted refers to its session and its client; and which message is finished with which code
abbrev pub message_told : MessageMove → MessageRows → List Effect
message_told (Accept slots row) r =
    effect.Accept (next_number r) ∷ effect.Plus (holder.Message (next_number r)) row.session ∷ effect.Plus (holder.Message (next_number r)) row.client ∷ []
message_told (Finish m code) r = effect.Finish m code ∷ []
message_told _ r = []

-- the closes that whoever finishes a message owes: of its reference to its session, and then to its client
abbrev pub closes_of : Option Message → List Owed
closes_of None = []
closes_of (Some message) = owed.Close (holder.Message message.number) message.row.session ∷ owed.Close (holder.Message message.number) message.row.client ∷ []

-- what threads owe after a move in an action of thread t
abbrev pub message_owed : ObjNo → MessageMove → MessageRows → List (List Owed) → List (List Owed)
message_owed t (Finish m code) r owed = owing owed t (closes_of (message_of r m))
message_owed t _ r owed = owed
