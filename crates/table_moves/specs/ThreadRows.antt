-- The rows of threads in the table of threads and processes.
use Rattle.std.specs.Prelude.{ℕ, List, Option}
use Rattle.sym_base.specs.declared.number.ObjNo.{ObjNo}
use Rattle.state_rows.specs.declared.thread.ThreadRow.{ThreadRow}
use Rattle.procs.specs.ProcsRows.{ProcsRows}

-- the table of threads and processes with these rows of threads
abbrev pub with_threads : ProcsRows → List (Option ThreadRow) → ProcsRows
with_threads rows threads = record rows { threads = threads }

-- a thread's row with the object that its find found, and its place
abbrev pub with_sought : ObjNo → ℕ → ThreadRow → ThreadRow
with_sought object place row = record row { sought = object; sought_place = place }
