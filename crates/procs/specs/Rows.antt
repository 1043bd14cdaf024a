-- Rows of threads and processes.
use Rattle.std.specs.Prelude.{◌≡◌, ℕ, ◌+◌, ◌<◌, Bool, false, List, [], ◌++◌, length, take, drop, Some, None, is_some, unwrap_or, replicate, slice_index, slice_index_or, slice_set}
use Rattle.sym_base.specs.declared.number.ObjNo.{ObjNo}
use Rattle.state_rows.specs.declared.thread.ThreadRow.{ThreadRow}
use Rattle.state_rows.specs.ThreadRows.{new_thread}
use Rattle.procs.specs.ProcsRows.{ProcsRows}

-- the memory of a process that was just added
abbrev pub no_bytes : List ℕ
no_bytes = replicate 1024 0

-- a table for the numbers below n, of which none is added
abbrev pub no_rows : ℕ → ProcsRows
no_rows n = record { threads = replicate n None; processes = replicate n None }

-- whether a number is that of a thread that was added
abbrev pub is_thread : ProcsRows → ObjNo → Bool
is_thread rows t = is_some (slice_index_or rows.threads t.0 None)

-- whether a number is that of a process that was added
abbrev pub is_process : ProcsRows → ObjNo → Bool
is_process rows p = is_some (slice_index_or rows.processes p.0 None)

-- the table is made for the number, and neither a thread nor a process was added with it
pub record IsFresh (rows : ProcsRows) (o : ObjNo) : Type 0 where
  pub thread_place : o.0 < length rows.threads
  pub process_place : o.0 < length rows.processes
  pub no_thread : is_thread rows o ≡ false
  pub no_process : is_process rows o ≡ false

-- the row of a thread that was added
abbrev pub row_of : ProcsRows → ObjNo → ThreadRow
row_of rows t = unwrap_or (slice_index_or rows.threads t.0 None) (new_thread t)

-- the bytes of a process that was added
abbrev pub bytes_of : ProcsRows → ObjNo → List ℕ
bytes_of rows p = unwrap_or (slice_index_or rows.processes p.0 None) no_bytes

-- a byte of a process, 0 where it wasn't added or the byte is past its memory's end
abbrev pub byte_at : ProcsRows → ObjNo → ℕ → ℕ
byte_at rows p at = slice_index (unwrap_or (slice_index_or rows.processes p.0 None) []) at

-- a thread has this row, and nothing else changes
abbrev pub with_row : ProcsRows → ObjNo → ThreadRow → ProcsRows
with_row rows t row = record rows { threads = slice_set rows.threads t.0 (Some row) }

-- a process has these bytes, and nothing else changes
abbrev pub with_process : ProcsRows → ObjNo → List ℕ → ProcsRows
with_process rows p bytes = record rows { processes = slice_set rows.processes p.0 (Some bytes) }

-- bytes, of which so many from an offset on have a value
abbrev pub filled : ℕ → ℕ → ℕ → List ℕ → List ℕ
filled at length byte bytes = take at bytes ++ replicate length byte ++ drop (at + length) bytes
