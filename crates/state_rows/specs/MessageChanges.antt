-- How the rows of messages change.
use Rattle.std.specs.Prelude.{ℕ, ℤ, ◌+◌, true, false, not, if◌then◌else◌, List, [], ◌∷◌, ◌++◌, Option, Some, None, filter, map, slice_get, slice_set, slice_index_or, pos}
use Rattle.sym_base.specs.declared.number.ObjNo.{ObjNo}
use Rattle.sym_base.specs.declared.number.MsgNo.{MsgNo}
use Rattle.sym_base.specs.declared.kind.Slots.{Slots}
use Rattle.sym_base.specs.declared.kind.Arg.{Arg}
use Rattle.sym_base.specs.declared.kind.Arg.TheVariants.{Number}
use Rattle.state_rows.specs.declared.messages.Way.{Way}
use Rattle.state_rows.specs.declared.messages.MsgRow.{MsgRow}
use Rattle.state_rows.specs.declared.messages.Message.{Message}
use Rattle.state_rows.specs.declared.messages.MessageRows.{MessageRows}
use Rattle.state_rows.specs.MessageRows.{has_number, untaken_at, with_length, HasRoomFor}

-- no message was accepted yet
abbrev pub no_messages : ℕ → ℕ → MessageRows
no_messages objects pool = record { objects = objects; pool = pool; accepted = 0; outstanding = [] }

-- the row of a message that comes now
abbrev pub new_row : ObjNo → ObjNo → ObjNo → ℤ → List Arg → Way → MsgRow
new_row s server client function args way =
    record { session = s; server = server; client = client; function = function; args = args; way = way; taken = false }

-- the number of the next message
abbrev pub next_number : MessageRows → MsgNo
next_number rows = record { 0 = rows.accepted + 1 }

-- the message stands behind the others under the next number
abbrev pub added : MessageRows → Slots → MsgRow → MessageRows
added rows slots row =
    record rows { accepted = rows.accepted + 1; outstanding = rows.outstanding ++ record { number = next_number rows; slots = slots; row = row } ∷ [] }

-- a message with its row changed
abbrev pub edited : MsgNo → (MsgRow → MsgRow) → Message → Message
edited m change message = if has_number m message then record message { row = change message.row } else message

abbrev pub with_edited : MessageRows → MsgNo → (MsgRow → MsgRow) → MessageRows
with_edited rows m change = record rows { outstanding = map (edited m change) rows.outstanding }

-- a message that was taken
abbrev pub taken_row : MsgRow → MsgRow
taken_row row = record row { taken = true }

-- the number of a message, where there is one
abbrev pub number_of : Option Message → Option MsgNo
number_of None = None
number_of (Some message) = Some message.number

-- the message that a server takes next: the first that it hasn't taken
abbrev pub next_of : MessageRows → ObjNo → Option MsgNo
next_of rows server = number_of (slice_get (untaken_at rows server) 0)

-- the message is taken, where there is one
abbrev pub taken : MessageRows → Option MsgNo → MessageRows
taken rows None = rows
taken rows (Some m) = with_edited rows m taken_row

abbrev pub after_take : MessageRows → ObjNo → MessageRows
after_take rows server = taken rows (next_of rows server)

-- the message is outstanding no more
abbrev pub after_finish : MessageRows → MsgNo → MessageRows
after_finish rows m = record rows { outstanding = filter (λ message. not (has_number m message)) rows.outstanding }

-- an argument of a row gets another length
abbrev pub resized : ℕ → ℕ → MsgRow → MsgRow
resized arg length row = record row { args = slice_set row.args arg (with_length (slice_index_or row.args arg (Number (pos 0))) length) }

-- the argument of a message is a descriptor with room for a length
abbrev pub HasRoomAt : ℕ → ℕ → Message → Type 0
HasRoomAt arg length message = HasRoomFor length (slice_index_or message.row.args arg (Number (pos 0)))

abbrev pub after_set_length : MessageRows → MsgNo → ℕ → ℕ → MessageRows
after_set_length rows m arg length = with_edited rows m (resized arg length)
