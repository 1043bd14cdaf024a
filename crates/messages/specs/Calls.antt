-- What sending a message answers, and what finishing one does.
use Rattle.std.specs.Prelude.{Bool, ◌&&◌, if◌then◌else◌}
use Rattle.state_rows.specs.declared.messages.MessageRows.{MessageRows}
use Rattle.state_rows.specs.declared.messages.Message.{Message}
use Rattle.state_rows.specs.declared.messages.MsgRow.{MsgRow}
use Rattle.sym_base.specs.declared.kind.Slots.{Slots}
use Rattle.messages.specs.declared.answers.Accepted.{Accepted}
use Rattle.messages.specs.declared.answers.Accepted.TheVariants as accepted
use Rattle.messages.specs.declared.answers.Finished.{Finished}
use Rattle.state_rows.specs.MessageRows.{is_async, is_full, used_slots, all_slots}
use Rattle.state_rows.specs.MessageChanges.{added, next_number}

-- whether a message is turned away: it would take a slot, and all of them are used
abbrev pub is_busy : MessageRows → Slots → MsgRow → Bool
is_busy rows slots row = is_async row.way && is_full rows row.session slots

-- what sending a message answers: both counts where it is turned away, and else its number
abbrev pub accept_answer : MessageRows → Slots → MsgRow → Accepted
accept_answer rows slots row =
    if is_busy rows slots row then accepted.Busy (used_slots rows row.session slots) (all_slots rows.pool slots) else accepted.Message (next_number rows)

-- and nothing changes where it is turned away
abbrev pub after_accept : MessageRows → Slots → MsgRow → MessageRows
after_accept rows slots row = if is_busy rows slots row then rows else added rows slots row

-- whom a finished message concerns
abbrev pub finished_of : Message → Finished
finished_of message = record { session = message.row.session; client = message.row.client; way = message.row.way }
