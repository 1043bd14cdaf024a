-- What contracts see of the table of mutexes and semaphores.
use Rattle.std.specs.Prelude.{ℕ, List, Option, slice_index_or, slice_set, replicate}
use Rattle.sym_base.specs.declared.number.ObjNo.{ObjNo}
use Rattle.state_rows.specs.declared.locks.LockRows.{LockRows}
use Rattle.state_rows.specs.LockChanges.{new_rows, left}
use Rattle.state_rows.specs.Locks.{best_waiter, waiters_at}

-- by object the owner of a mutex, the count of a semaphore, and the threads that wait for either; and the priority of
-- each thread
pub record KernelLocks : Type 0 where
  pub rows : LockRows
  pub priorities : List ℕ

-- the priority of a thread
abbrev pub priority_of : KernelLocks → ObjNo → ℕ
priority_of s t = slice_index_or s.priorities t.0 0

-- the waiter that is served next
abbrev pub best_of : KernelLocks → ObjNo → Option ObjNo
best_of s o = best_waiter (priority_of s) s.rows o

-- so many objects and threads: nobody owns or waits, and every count and priority is 0
abbrev pub new_locks : ℕ → ℕ → KernelLocks
new_locks objects threads = record { rows = new_rows objects; priorities = replicate threads 0 }

-- the rows change, and the priorities stay
abbrev pub with_rows : KernelLocks → LockRows → KernelLocks
with_rows s rows = record s { rows = rows }

-- the waiter that is served next waits no longer
abbrev pub without_best : KernelLocks → ObjNo → KernelLocks
without_best s o = with_rows s (record s.rows { waiters = slice_set s.rows.waiters o.0 (left (best_of s o) (waiters_at s.rows o)) })

-- the thread has another priority, and its place among waiters stays
abbrev pub after_priority : KernelLocks → ObjNo → ℕ → KernelLocks
after_priority s t priority = record s { priorities = slice_set s.priorities t.0 priority }
