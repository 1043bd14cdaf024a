-- What the calls on mutexes and semaphores answer, and how the rows change, one equation a change.
use Rattle.std.specs.Prelude.{ℕ, ℤ, pos, negsuc, ◌+◌, ◌-◌, ◌==◌, nat_lt, if◌then◌else◌, List, [], ◌∷◌, ◌++◌, Option, Some, None, map, replicate, slice_set}
use Rattle.sym_base.specs.declared.number.ObjNo.{ObjNo}
use Rattle.state_rows.specs.declared.locks.Owner.{Owner}
use Rattle.state_rows.specs.declared.locks.LockRows.{LockRows}
use Rattle.state_rows.specs.declared.locks.Locked.{Locked}
use Rattle.state_rows.specs.declared.locks.Locked.TheVariants.{Taken, Again, Waits}
use Rattle.state_rows.specs.declared.locks.Unlocked.{Unlocked}
use Rattle.state_rows.specs.declared.locks.Unlocked.TheVariants.{Level, Freed, Passed, NotOwner}
use Rattle.state_rows.specs.declared.locks.Signalled.{Signalled}
use Rattle.state_rows.specs.declared.locks.Signalled.TheVariants.{Counted, Woke, Overflow}
use Rattle.state_rows.specs.NanoChanges.{one_more}
use Rattle.state_rows.specs.Locks.{owner_at, count_at, waiters_at, without}

-- so many objects: nobody owns or waits, and every count is 0
abbrev pub new_rows : ℕ → LockRows
new_rows objects = record { owners = replicate objects None; counts = replicate objects 0; waiters = replicate objects [] }

-- the count that a semaphore starts with, and 0 for a mutex, which has none
abbrev pub start_count : Option ℤ → ℕ
start_count None = 0
start_count (Some (pos count)) = count
start_count (Some (negsuc below)) = 0

abbrev pub after_new_row : LockRows → ObjNo → Option ℤ → LockRows
after_new_row r o start = record r { counts = slice_set r.counts o.0 (start_count start) }

-- an owner that holds a mutex once
abbrev pub once : ObjNo → Option Owner
once t = Some (record { thread = t; level = 1 })

-- a thread takes a free mutex, takes its own again, and waits for another's
abbrev pub lock_answer : Option Owner → ObjNo → Locked
lock_answer None t = Taken
lock_answer (Some owner) t = if owner.thread.0 == t.0 then Again else Waits

-- the owner then: the thread, with one level more where it was the owner
abbrev pub owner_after_lock : Option Owner → ObjNo → Locked → Option Owner
owner_after_lock owner t Taken = once t
owner_after_lock None t Again = None
owner_after_lock (Some owner) t Again = Some (record owner { level = one_more owner.level })
owner_after_lock owner t Waits = owner

-- the waiters then: the thread stands last where it waits
abbrev pub waiters_after_lock : List ObjNo → ObjNo → Locked → List ObjNo
waiters_after_lock queue t Taken = queue
waiters_after_lock queue t Again = queue
waiters_after_lock queue t Waits = queue ++ t ∷ []

abbrev pub after_lock : LockRows → ObjNo → ObjNo → Locked → LockRows
after_lock r o t answer = record r {
  owners = slice_set r.owners o.0 (owner_after_lock (owner_at r o) t answer);
  waiters = slice_set r.waiters o.0 (waiters_after_lock (waiters_at r o) t answer);
}

-- a mutex whose last level goes is passed to the best waiter, or is free without one
abbrev pub passed : Option ObjNo → Unlocked
passed None = Freed
passed (Some t) = Passed t

-- only its owner unlocks a mutex, and only its last level gives it away
abbrev pub unlock_answer : Option Owner → ObjNo → Option ObjNo → Unlocked
unlock_answer None t best = NotOwner
unlock_answer (Some owner) t best = if owner.thread.0 == t.0 then (if nat_lt 1 owner.level then Level else passed best) else NotOwner

-- the owner then: with one level less, or nobody, or the waiter
abbrev pub owner_after_unlock : Option Owner → Unlocked → Option Owner
owner_after_unlock None Level = None
owner_after_unlock (Some owner) Level = Some (record owner { level = owner.level - 1 })
owner_after_unlock owner Freed = None
owner_after_unlock owner (Passed t) = once t
owner_after_unlock owner NotOwner = owner

-- the waiters then: without the one that owns the mutex
abbrev pub waiters_after_unlock : List ObjNo → Unlocked → List ObjNo
waiters_after_unlock queue Level = queue
waiters_after_unlock queue Freed = queue
waiters_after_unlock queue (Passed t) = without t queue
waiters_after_unlock queue NotOwner = queue

abbrev pub after_unlock : LockRows → ObjNo → Unlocked → LockRows
after_unlock r o answer = record r {
  owners = slice_set r.owners o.0 (owner_after_unlock (owner_at r o) answer);
  waiters = slice_set r.waiters o.0 (waiters_after_unlock (waiters_at r o) answer);
}

-- some waiters without one, where there is one
abbrev pub left : Option ObjNo → List ObjNo → List ObjNo
left None queue = queue
left (Some t) queue = without t queue

-- the next owner is the best waiter, or nobody
abbrev pub next_owner : Option ObjNo → Option Owner
next_owner None = None
next_owner (Some t) = once t

-- the mutex goes to the best waiter, all levels at once, or is free
abbrev pub after_free : LockRows → ObjNo → Option ObjNo → LockRows
after_free r o best = record r { owners = slice_set r.owners o.0 (next_owner best); waiters = slice_set r.waiters o.0 (left best (waiters_at r o)) }

-- a count falls, or the thread stands last among the waiters
abbrev pub after_wait : LockRows → ObjNo → ObjNo → LockRows
after_wait r o t = record r {
  counts = slice_set r.counts o.0 (count_at r o - 1);
  waiters = slice_set r.waiters o.0 (if count_at r o == 0 then waiters_at r o ++ t ∷ [] else waiters_at r o);
}

-- the best waiter goes on; without one the count rises, unless it is the greatest
abbrev pub signal_answer : Option ObjNo → ℕ → Signalled
signal_answer (Some t) count = Woke t
signal_answer None count = if nat_lt count 2147483647 then Counted else Overflow

-- a count that rises stands still at the greatest
abbrev pub counted : ℕ → ℕ
counted count = if nat_lt count 2147483647 then count + 1 else count

abbrev pub count_after_signal : ℕ → Signalled → ℕ
count_after_signal count Counted = counted count
count_after_signal count (Woke t) = count
count_after_signal count Overflow = count

abbrev pub waiters_after_signal : List ObjNo → Signalled → List ObjNo
waiters_after_signal queue Counted = queue
waiters_after_signal queue (Woke t) = without t queue
waiters_after_signal queue Overflow = queue

abbrev pub after_signal : LockRows → ObjNo → Signalled → LockRows
after_signal r o answer = record r {
  counts = slice_set r.counts o.0 (count_after_signal (count_at r o) answer);
  waiters = slice_set r.waiters o.0 (waiters_after_signal (waiters_at r o) answer);
}

-- the thread waits for nothing
abbrev pub after_remove : LockRows → ObjNo → LockRows
after_remove r t = record r { waiters = map (without t) r.waiters }

-- nobody owns the object or waits for it, and its count is 0
abbrev pub after_sweep : LockRows → ObjNo → LockRows
after_sweep r o = record { owners = slice_set r.owners o.0 None; counts = slice_set r.counts o.0 0; waiters = slice_set r.waiters o.0 [] }
