-- Moves in the rows of mutexes and semaphores: what each changes, and what it tells.
use Rattle.std.specs.Prelude.{pos, List, [], ◌∷◌, ◌++◌, Option, Some, None, slice_set}
use Rattle.std.specs.List.{slice_index_or}
use Rattle.sym_base.specs.declared.number.ObjNo.{ObjNo}
use Rattle.entry_log.specs.declared.effect.Effect.{Effect}
use Rattle.entry_log.specs.declared.effect.Effect.TheVariants.{Plus, Take, Give}
use Rattle.entry_log.specs.declared.effect.Holder.TheVariants.{Own}
use Rattle.entry_log.specs.declared.effect.LockNo.TheVariants.{Object}
use Rattle.state_rows.specs.declared.duty.Owed.{Owed}
use Rattle.state_rows.specs.declared.duty.Owed.TheVariants.{Close}
use Rattle.state_rows.specs.declared.locks.LockRows.{LockRows}
use Rattle.state_rows.specs.declared.locks.Locked.TheVariants.{Taken}
use Rattle.state_rows.specs.declared.locks.Unlocked.TheVariants.{Freed, Passed}
use Rattle.state_rows.specs.Locks.{without}
use Rattle.state_rows.specs.LockChanges.{after_new_row, after_lock, after_unlock, after_free, after_remove, after_wait, after_signal}
use Rattle.machine.specs.declared.lock_move.LockMove.{LockMove}
use Rattle.machine.specs.declared.lock_move.LockMove.TheVariants.{Start, Lock, Unlock, Free, Leave, WaitOn, Signal}
use Rattle.machine.specs.Rows.{owing}

-- the rows after a move
abbrev pub lock_moved : LockMove → LockRows → LockRows
lock_moved (Start o count) r = after_new_row r o (Some (pos count))
lock_moved (Lock o t answer) r = after_lock r o t answer
lock_moved (Unlock o t answer) r = after_unlock r o answer
lock_moved (Free o t best) r = after_free r o best
lock_moved (Leave t) r = after_remove r t
lock_moved (WaitOn o t) r = after_wait r o t
lock_moved (Signal o answer) r = after_signal r o answer

-- the mutexes that threads hold, where one holds a further one, the last that it took, and where one doesn't hold it
abbrev pub holding : List (List ObjNo) → ObjNo → ObjNo → List (List ObjNo)
holding mutexes t o = slice_set mutexes t.0 (slice_index_or mutexes t.0 [] ++ o ∷ [])

abbrev pub not_holding : List (List ObjNo) → ObjNo → ObjNo → List (List ObjNo)
not_holding mutexes t o = slice_set mutexes t.0 (without o (slice_index_or mutexes t.0 []))

-- the mutexes that threads hold where a waiter takes one, if there is a waiter
abbrev pub taken_by : Option ObjNo → ObjNo → List (List ObjNo) → List (List ObjNo)
taken_by None o mutexes = mutexes
taken_by (Some w) o mutexes = holding mutexes w o

-- the mutexes that threads hold after a move: whoever takes one holds it, and whoever gives it up doesn't
abbrev pub mutexes_moved : LockMove → List (List ObjNo) → List (List ObjNo)
mutexes_moved (Lock o t Taken) mutexes = holding mutexes t o
mutexes_moved (Unlock o t Freed) mutexes = not_holding mutexes t o
mutexes_moved (Unlock o t (Passed w)) mutexes = holding (not_holding mutexes t o) w o
mutexes_moved (Free o t best) mutexes = taken_by best o (not_holding mutexes t o)
mutexes_moved _ mutexes = mutexes

-- what threads owe after it: whoever gives a mutex up owes the close of its ownership
abbrev pub owed_moved : LockMove → List (List Owed) → List (List Owed)
owed_moved (Unlock o t Freed) owed = owing owed t (Close (Own t) o ∷ [])
owed_moved (Unlock o t (Passed w)) owed = owing owed t (Close (Own t) o ∷ [])
owed_moved (Free o t best) owed = owing owed t (Close (Own t) o ∷ [])
owed_moved _ owed = owed

-- what is told of a waiter that takes a mutex, if there is a waiter
abbrev pub taker_told : Option ObjNo → ObjNo → List Effect
taker_told None o = []
taker_told (Some w) o = Take w (Object o) ∷ Plus (Own w) o ∷ []

-- what it tells: who took and gave which mutex, and who owns it from now on
abbrev pub lock_told : LockMove → List Effect
lock_told (Lock o t Taken) = Take t (Object o) ∷ Plus (Own t) o ∷ []
lock_told (Unlock o t Freed) = Give t (Object o) ∷ []
lock_told (Unlock o t (Passed w)) = Give t (Object o) ∷ Take w (Object o) ∷ Plus (Own w) o ∷ []
lock_told (Free o t best) = Give t (Object o) ∷ taker_told best o
lock_told _ = []
