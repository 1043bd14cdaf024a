-- Reading the rows of mutexes and semaphores.
use Rattle.std.specs.Prelude.{ℕ, Bool, not, ◌==◌, List, [], Option, Some, None, filter, slice_index_or}
use Rattle.std.specs.List.{list_any}
use Rattle.sym_base.specs.Greatest.{first_of_greatest}
use Rattle.sym_base.specs.declared.number.ObjNo.{ObjNo}
use Rattle.state_rows.specs.declared.locks.Owner.{Owner}
use Rattle.state_rows.specs.declared.locks.LockRows.{LockRows}

-- who owns a mutex
abbrev pub owner_at : LockRows → ObjNo → Option Owner
owner_at r o = slice_index_or r.owners o.0 None

-- how often the owner holds it
abbrev pub level_of : Option Owner → ℕ
level_of None = 0
level_of (Some owner) = owner.level

-- the count of a semaphore
abbrev pub count_at : LockRows → ObjNo → ℕ
count_at r o = slice_index_or r.counts o.0 0

-- the threads that wait for an object, the one that waits longest first
abbrev pub waiters_at : LockRows → ObjNo → List ObjNo
waiters_at r o = slice_index_or r.waiters o.0 []

-- the waiter that is served next, by the threads' priorities: the first of the greatest
abbrev pub best_waiter : (ObjNo → ℕ) → LockRows → ObjNo → Option ObjNo
best_waiter priority r o = first_of_greatest priority (waiters_at r o)

-- whether a thread is among some waiters
abbrev pub is_among : ObjNo → List ObjNo → Bool
is_among t queue = list_any (λ other. other.0 == t.0) queue

-- whether a thread waits for some object
abbrev pub is_waiting : LockRows → ObjNo → Bool
is_waiting r t = list_any (is_among t) r.waiters

-- some waiters without a thread
abbrev pub without : ObjNo → List ObjNo → List ObjNo
without t queue = filter (λ other. not (other.0 == t.0)) queue
