-- What contracts see of the table of threads and processes.
use Rattle.std.specs.Prelude.{ℕ, List, Option}
use Rattle.state_rows.specs.declared.thread.ThreadRow.{ThreadRow}

-- by object number, none where it wasn't added: the row of each thread, and the 1,024 bytes of each process
pub record ProcsRows : Type 0 where
  pub threads : List (Option ThreadRow)
  pub processes : List (Option (List ℕ))
