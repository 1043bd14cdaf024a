-- When a move in the table of mutexes and semaphores can be made.
use Rattle.std.specs.Prelude.{◌≡◌, ◌<◌, ◌≤◌, false, List, [], length, IsSome, Option, Some, None}
use Rattle.sym_base.specs.declared.limits.TheConstants.Limits.{BOOT_OBJECTS, OBJECTS}
use Rattle.sym_base.specs.declared.number.ObjNo.{ObjNo}
use Rattle.state_rows.specs.declared.locks.Locked.TheVariants.{Taken, Waits}
use Rattle.state_rows.specs.declared.locks.Locked.{Locked}
use Rattle.state_rows.specs.declared.locks.Unlocked.TheVariants.{Freed, Passed}
use Rattle.state_rows.specs.declared.locks.Unlocked.{Unlocked}
use Rattle.state_rows.specs.LockChanges.{lock_answer, unlock_answer, signal_answer}
use Rattle.state_rows.specs.Locks.{best_waiter, count_at, is_waiting, owner_at, waiters_at}
use Rattle.cleanup.specs.Lists.{HasSome, is_object}
use Rattle.machine.specs.declared.lock_move.LockMove.{LockMove}
use Rattle.machine.specs.declared.lock_move.LockMove.TheVariants.{Start, Lock, Unlock, Free, Leave, WaitOn, Signal}
use Rattle.machine.specs.declared.state.State.{State}
use Rattle.machine.specs.Choice.{priority_of}
use Rattle.machine.specs.LockMoves.{not_holding}
use Rattle.kernel_tables.specs.Referred.{HasPlaces, IsReferred}

-- a thread may take a mutex, where threads hold these: none of them holds it, and it has references
pub record CanTake (S : State) (mutexes : List (List ObjNo)) (t o : ObjNo) : Type 0 where
  pub thread : t.0 < length S.references.owed
  pub object : o.0 < OBJECTS
  pub free : HasSome (is_object o) mutexes → ⊥
  pub referred : IsReferred S o

-- a thread may give a mutex up: there is a place for what it owes then
pub record CanGive (S : State) (t o : ObjNo) : Type 0 where
  pub thread : t.0 < length S.references.owed
  pub object : o.0 < OBJECTS
  pub places : HasPlaces 1 S t

-- an object's number is the table's
abbrev pub IsPlaced : State → ObjNo → Type 0
IsPlaced S o = o.0 < length S.synchronization.locks.owners

-- an object's number is the table's, and so is that of a thread that comes to wait, which waits nowhere yet
pub record CanJoin (S : State) (o t : ObjNo) (waits : Type 0) : Type 0 where
  pub object : IsPlaced S o
  pub thread : waits → t.0 < BOOT_OBJECTS
  pub nowhere : waits → is_waiting S.synchronization.locks t ≡ false

-- what a lock and an unlock change in the lists of threads can be made
abbrev pub LocksMay : State → ObjNo → ObjNo → Locked → Type 0
LocksMay S o t Taken = CanTake S S.synchronization.mutexes t o
LocksMay S o t _ = Unit {0}

abbrev pub UnlocksMay : State → ObjNo → ObjNo → Unlocked → Type 0
UnlocksMay S o t Freed = CanGive S t o
UnlocksMay S o t (Passed w) = CanGive S t o × CanTake S (not_holding S.synchronization.mutexes t o) w o
UnlocksMay S o t _ = Unit {0}

abbrev pub FreeMay : State → ObjNo → ObjNo → Option ObjNo → Type 0
FreeMay S o t None = CanGive S t o
FreeMay S o t (Some w) = CanGive S t o × CanTake S (not_holding S.synchronization.mutexes t o) w o

-- the numbers are the table's, the answer is the one that the rows give, and what threads hold and owe then has a place
abbrev pub CanLock : LockMove → State → Type 0
CanLock (Start o count) S = IsPlaced S o × (count ≤ 2147483647) × (owner_at S.synchronization.locks o ≡ None) × (waiters_at S.synchronization.locks o ≡ [])
CanLock (Lock o t answer) S = CanJoin S o t (answer ≡ Waits) × (answer ≡ lock_answer (owner_at S.synchronization.locks o) t) × LocksMay S o t answer
CanLock (Unlock o t answer) S =
    IsPlaced S o × (answer ≡ unlock_answer (owner_at S.synchronization.locks o) t
    (best_waiter (priority_of S) S.synchronization.locks o)) × UnlocksMay S o t answer
CanLock (Free o t best) S =
    IsPlaced S o × IsSome (owner_at S.synchronization.locks o)
    × (best ≡ best_waiter (priority_of S) S.synchronization.locks o) × FreeMay S o t best
CanLock (Leave t) S = t.0 < BOOT_OBJECTS
CanLock (WaitOn o t) S = CanJoin S o t (count_at S.synchronization.locks o ≡ 0)
CanLock (Signal o answer) S =
    IsPlaced S o × (answer ≡ signal_answer (best_waiter (priority_of S) S.synchronization.locks o)
    (count_at S.synchronization.locks o))
