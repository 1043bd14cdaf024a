-- What the table of threads and processes keeps.
use Rattle.std.specs.Prelude.{◌≡◌, ℕ, ◌+◌, ◌<◌, ◌≤◌, List, length, Option, Some, None, is_some, count_by, slice_index_or}
use Rattle.state_rows.specs.declared.thread.ThreadRow.{ThreadRow}
use Rattle.procs.specs.Rows.{no_bytes}

-- there are rows for numbers of 16 bits alone; each process has 1,024 bytes, the spare memories have zeros, and there is one for each process to come
pub record AreKept (threads : List (Option ThreadRow)) (processes : List (Option (List ℕ))) (spare : List (List ℕ)) : Type 0 where
  pub few : length threads ≤ 65535
  pub sized : (p : ℕ) (bytes : List ℕ) → slice_index_or processes p None ≡ Some bytes → length bytes ≡ 1024
  pub zeros : (k : ℕ) → k < length spare → slice_index_or spare k no_bytes ≡ no_bytes
  pub enough : length processes ≤ length spare + count_by (λ row. is_some row) processes
