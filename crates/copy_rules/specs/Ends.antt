-- The two ends of a copy: the client of a message, and the thread that copies.
use Rattle.std.specs.Prelude.{ℕ, List, Option, Some, None, slice_index_or, pos}
use Rattle.sym_base.specs.declared.number.ObjNo.{ObjNo}
use Rattle.sym_base.specs.declared.kind.Arg.{Arg}
use Rattle.sym_base.specs.declared.kind.Arg.TheVariants.{Number}
use Rattle.state_rows.specs.declared.messages.MessageRows.{MessageRows}
use Rattle.state_rows.specs.declared.messages.MsgRow.{MsgRow}
use Rattle.state_rows.specs.declared.thread.Stage.{Stage}
use Rattle.state_rows.specs.declared.thread.Stage.TheVariants.{Buried}
use Rattle.state_rows.specs.declared.thread.ThreadRow.{ThreadRow}
use Rattle.state_rows.specs.MessageRows.{row_of}
use Rattle.copy_rules.specs.declared.ends.Ends.{Ends}
use Rattle.copy_rules.specs.declared.job.Job.{Job}

-- how far the death of a thread is: one without a row is buried
abbrev pub stage_of : Option ThreadRow → Stage
stage_of None = Buried
stage_of (Some row) = row.stage

-- the process of a thread: the kernel's where it has no row
abbrev pub process_of : Option ThreadRow → ObjNo
process_of None = record { 0 = 0 }
process_of (Some row) = row.process

-- an argument of a message
abbrev pub argument_of : MsgRow → ℕ → Arg
argument_of row arg = slice_index_or row.args arg (Number (pos 0))

-- the ends of a copy between the client of a message and a thread
abbrev pub ends_between : Option ThreadRow → Option ThreadRow → MsgRow → ℕ → Ends
ends_between client caller row arg = record {
  stage = stage_of client;
  client = process_of client;
  argument = argument_of row arg;
  caller = process_of caller;
}

-- the row of a thread
abbrev pub thread_at : List (Option ThreadRow) → ObjNo → Option ThreadRow
thread_at threads t = slice_index_or threads t.0 None

-- the ends of the copy that a piece is asked for, by the rows of threads and messages; without a message the client is nobody
abbrev pub ends_at : List (Option ThreadRow) → Option MsgRow → Job → Ends
ends_at threads None job = record { stage = Buried; client = process_of None; argument = Number (pos 0); caller = process_of (thread_at threads job.caller) }
ends_at threads (Some row) job = ends_between (thread_at threads row.client) (thread_at threads job.caller) row job.arg

abbrev pub ends_of : List (Option ThreadRow) → MessageRows → Job → Ends
ends_of threads messages job = ends_at threads (row_of messages job.m) job
