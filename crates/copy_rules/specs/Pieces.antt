-- Where the bytes of a piece are, what it answers, and what it leaves.
use Rattle.std.specs.Prelude.{ℕ, ◌+◌, nat_lt, if◌then◌else◌, List, Option, Some, None}
use Rattle.state_rows.specs.declared.messages.MessageRows.{MessageRows}
use Rattle.state_rows.specs.MessageChanges.{after_set_length}
use Rattle.copy_rules.specs.declared.ends.Ends.{Ends}
use Rattle.copy_rules.specs.declared.job.Job.{Job}
use Rattle.copy_rules.specs.declared.job.Piece.{Piece}
use Rattle.copy_rules.specs.declared.job.Place.{Place}
use Rattle.copy_rules.specs.Memory.{copied}
use Rattle.copy_rules.specs.Refusals.{read_refusal, write_refusal, start_of}
use Rattle.copy_rules.specs.Sizes.{answer_of, done_after, piece_size, read_size, write_size}

-- where the bytes of the next piece are at the client, and where at the caller
abbrev pub client_place : Ends → Job → Place
client_place ends job = record { process = ends.client; at = start_of ends.argument + job.offset + job.done }

abbrev pub caller_place : Ends → Job → Place
caller_place ends job = record { process = ends.caller; at = job.at + job.done }

-- what a piece of a read answers, and what one of a write
abbrev pub read_answer : Ends → Job → Piece
read_answer ends job = answer_of (read_refusal ends job) (read_size ends job) job.done

abbrev pub write_answer : Ends → Job → Piece
write_answer ends job = answer_of (write_refusal ends job) (write_size job) job.done

-- a piece that is refused leaves all as it is
abbrev pub unless_refused : {A : Type 0} → Option Piece → A → A → A
unless_refused (Some refusal) old new = old
unless_refused None old new = new

-- the memories after a piece of a read, and after one of a write
abbrev pub memories_after_read : List (Option (List ℕ)) → Ends → Job → List (Option (List ℕ))
memories_after_read memories ends job =
    unless_refused (read_refusal ends job) memories (copied memories (client_place ends job) (caller_place ends job) (piece_size (read_size ends job) job.done))

abbrev pub memories_after_write : List (Option (List ℕ)) → Ends → Job → List (Option (List ℕ))
memories_after_write memories ends job =
    unless_refused (write_refusal ends job) memories (copied memories (caller_place ends job) (client_place ends job) (piece_size (write_size job) job.done))

-- the messages after a piece of a write: the last piece tells the descriptor how many bytes it has now
abbrev pub with_length_set : MessageRows → Job → MessageRows
with_length_set messages job =
    if nat_lt (done_after (write_size job) job.done) (write_size job) then messages
    else after_set_length messages job.m job.arg (job.offset + job.len)

abbrev pub messages_after_write : MessageRows → Ends → Job → MessageRows
messages_after_write messages ends job = unless_refused (write_refusal ends job) messages (with_length_set messages job)
