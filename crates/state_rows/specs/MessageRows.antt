-- The outstanding messages, as a list in order of acceptance.
use Rattle.std.specs.Prelude.{ℕ, ◌≤◌, Bool, true, false, not, ◌&&◌, ◌==◌, List, Option, Some, None, option_map, count_by, filter, IsSome}
use Rattle.std.specs.List.{find}
use Rattle.sym_base.specs.declared.number.ObjNo.{ObjNo}
use Rattle.sym_base.specs.declared.number.MsgNo.{MsgNo}
use Rattle.sym_base.specs.declared.kind.Slots.{Slots}
use Rattle.sym_base.specs.declared.kind.Slots.TheVariants.{Own, Pool}
use Rattle.sym_base.specs.declared.kind.Arg.{Arg}
use Rattle.sym_base.specs.declared.kind.Arg.TheVariants.{Number, Descriptor}
use Rattle.state_rows.specs.declared.messages.Way.{Way}
use Rattle.state_rows.specs.declared.messages.Way.TheVariants.{Async, Sync, Disconnect}
use Rattle.state_rows.specs.declared.messages.MsgRow.{MsgRow}
use Rattle.state_rows.specs.declared.messages.Message.{Message}
use Rattle.state_rows.specs.declared.messages.MessageRows.{MessageRows}

-- how many messages may be outstanding at once: one for each of the 16 statuses of 64 threads, one for each thread that
-- waits, and the disconnect messages of 4,096 sessions
unfoldable pub most_messages : ℕ
most_messages = 5184

-- whether a message has a number
abbrev pub has_number : MsgNo → Message → Bool
has_number m message = message.number.0 == m.0

-- the message of a number
abbrev pub message_of : MessageRows → MsgNo → Option Message
message_of rows m = find (has_number m) rows.outstanding

abbrev pub IsOutstanding : MessageRows → MsgNo → Type 0
IsOutstanding rows m = IsSome (message_of rows m)

-- the row of a message
abbrev pub row_of : MessageRows → MsgNo → Option MsgRow
row_of rows m = option_map (λ message. message.row) (message_of rows m)

-- whether a message is outstanding and was taken
abbrev pub was_taken : Option Message → Bool
was_taken None = false
was_taken (Some message) = message.row.taken

abbrev pub is_taken : MessageRows → MsgNo → Bool
is_taken rows m = was_taken (message_of rows m)

-- whether a message is one of a server, and whether it waits there to be taken
abbrev pub is_at : ℕ → Message → Bool
is_at server message = message.row.server.0 == server

abbrev pub waits_at : ℕ → Message → Bool
waits_at server message = is_at server message && not message.row.taken

-- the messages of a server, and those that it hasn't taken, in order of acceptance
abbrev pub messages_at : MessageRows → ObjNo → List Message
messages_at rows server = filter (is_at server.0) rows.outstanding

abbrev pub untaken_at : MessageRows → ObjNo → List Message
untaken_at rows server = filter (waits_at server.0) rows.outstanding

-- whether a message takes a slot
abbrev pub is_async : Way → Bool
is_async (Async status) = true
is_async Sync = false
is_async Disconnect = false

-- whether a session's slots are the pool's
abbrev pub is_pool : Slots → Bool
is_pool (Own n) = false
is_pool Pool = true

-- whether a message takes one of the slots that a session has: a message of the session itself, or of any session of the
-- pool where the slots are the pool's
abbrev pub is_among : ObjNo → Slots → Message → Bool
is_among s (Own n) message = message.row.session.0 == s.0
is_among s Pool message = is_pool message.slots

abbrev pub takes_slot : ObjNo → Slots → Message → Bool
takes_slot s slots message = is_async message.row.way && is_among s slots message

-- how many slots a session may use are used, and how many there are
abbrev pub used_slots : MessageRows → ObjNo → Slots → ℕ
used_slots rows s slots = count_by (takes_slot s slots) rows.outstanding

abbrev pub all_slots : ℕ → Slots → ℕ
all_slots pool (Own n) = n
all_slots pool Pool = pool

abbrev pub is_full : MessageRows → ObjNo → Slots → Bool
is_full rows s slots = used_slots rows s slots == all_slots rows.pool slots

-- an argument with another length; a number stays
abbrev pub with_length : Arg → ℕ → Arg
with_length (Number number) length = Number number
with_length (Descriptor offset before max) length = Descriptor offset length max

-- an argument is a descriptor whose greatest length is at least this
abbrev pub HasRoomFor : ℕ → Arg → Type 0
HasRoomFor length (Number number) = ⊥
HasRoomFor length (Descriptor offset before max) = length ≤ max
