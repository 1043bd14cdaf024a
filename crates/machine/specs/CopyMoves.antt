-- A piece of a copy: what it leaves of the memories of processes, and of the messages.
use Rattle.std.specs.Prelude.{ℕ, List, Option}
use Rattle.state_rows.specs.declared.messages.MessageRows.{MessageRows}
use Rattle.state_rows.specs.declared.thread.ThreadRow.{ThreadRow}
use Rattle.copy_rules.specs.Ends.{ends_of}
use Rattle.copy_rules.specs.Pieces.{memories_after_read, memories_after_write, messages_after_write}
use Rattle.copy_rules.specs.declared.job.CopyMove.{CopyMove}
use Rattle.copy_rules.specs.declared.job.CopyMove.TheVariants.{Read, Write}

-- the memories after a piece: a read changes that of the caller's process, a write that of the client's
abbrev pub memories_copied : CopyMove → List (Option ThreadRow) → MessageRows → List (Option (List ℕ)) → List (Option (List ℕ))
memories_copied (Read job) threads messages memories = memories_after_read memories (ends_of threads messages job) job
memories_copied (Write job) threads messages memories = memories_after_write memories (ends_of threads messages job) job

-- the messages after it: only the last piece of a write changes one
abbrev pub messages_copied : CopyMove → List (Option ThreadRow) → MessageRows → MessageRows
messages_copied (Read job) threads messages = messages
messages_copied (Write job) threads messages = messages_after_write messages (ends_of threads messages job) job
