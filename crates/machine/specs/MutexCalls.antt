-- `lock` and `unlock`: kernel mutexes, which nest. A mutex that is given up goes to a waiter at once.
use Rattle.std.specs.Prelude.{ℕ, pos, [], ◌∷◌, Option, Some, None}
use Rattle.sym_base.specs.declared.error.Error.TheVariants.{General}
use Rattle.sym_base.specs.declared.kind.Kind.TheVariants.{Mutex}
use Rattle.sym_base.specs.declared.number.ObjNo.{ObjNo}
use Rattle.sym_base.specs.declared.word.Word.TheVariants as word
use Rattle.entry_log.specs.declared.step.Part.{Part}
use Rattle.entry_log.specs.declared.step.Part.TheVariants.{Look, Do, Done}
use Rattle.entry_log.specs.declared.step.Step.TheVariants.{Of}
use Rattle.state_rows.specs.declared.locks.Locked.{Locked}
use Rattle.state_rows.specs.declared.locks.Locked.TheVariants.{Waits}
use Rattle.state_rows.specs.declared.locks.Unlocked.{Unlocked}
use Rattle.state_rows.specs.declared.locks.Unlocked.TheVariants.{Passed, NotOwner}
use Rattle.state_rows.specs.declared.servers.ServerRow.{ServerRow}
use Rattle.state_rows.specs.declared.thread.ThreadRow.{ThreadRow}
use Rattle.state_rows.specs.Locks.{owner_at, best_waiter}
use Rattle.state_rows.specs.ServerRows.{server_at}
use Rattle.state_rows.specs.LockChanges.{lock_answer, unlock_answer}
use Rattle.machine.specs.declared.decision.Decision.{Decision}
use Rattle.machine.specs.declared.lock_move.LockMove.TheVariants.{Lock, Unlock}
use Rattle.machine.specs.declared.moves.Move.TheVariants.{Locks, Wake}
use Rattle.machine.specs.declared.state.State.{State}
use Rattle.machine.specs.Choice.{priority_of}
use Rattle.machine.specs.Decide.{nothing, answer, refuse, unless_holding, wait_at}
use Rattle.machine.specs.Look.{look_kind}

-- owned by another: the thread waits; else it takes it, or holds it once more
abbrev pub lock_by : ObjNo → ObjNo → Locked → Decision
lock_by t o Waits = wait_at t (Of word.Lock Do) o (Lock o t Waits)
lock_by t o locked = answer t (Of word.Lock Do) (Locks (Lock o t locked) ∷ []) (pos 0)

-- a server isn't locked
abbrev pub unless_server : Option ServerRow → Decision → Decision
unless_server None other = other
unless_server (Some server) other = nothing

-- the second step. The look refuses a thread that holds a fast mutex, and so does this: nobody waits with one
abbrev pub lock_do : State → ObjNo → Option ObjNo → Decision
lock_do S t None = nothing
lock_do S t (Some o) =
    unless_holding S t (Of word.Lock Do) (unless_server (server_at S.serving.servers o)
    (lock_by t o (lock_answer (owner_at S.synchronization.locks o) t)))

-- first the look, then the lock, and after a wait the answer: the mutex is the thread's already
abbrev pub lock_step : State → ObjNo → ThreadRow → ℕ → Option Part → Decision
lock_step S t row x None = unless_holding S t (Of word.Lock Look) (look_kind S t row Mutex word.Lock x)
lock_step S t row x (Some Do) = lock_do S t row.uses
lock_step S t row x (Some part) = answer t (Of word.Lock Done) [] (pos 0)

-- not the owner: a general error; else the thread holds it once less, or gives it up, and the waiter that gets it waits
-- no longer
abbrev pub unlock_by : ObjNo → ObjNo → Unlocked → Decision
unlock_by t o NotOwner = refuse t (Of word.Unlock Do) General
unlock_by t o (Passed w) = answer t (Of word.Unlock Do) (Locks (Unlock o t (Passed w)) ∷ Wake w ∷ []) (pos 0)
unlock_by t o unlocked = answer t (Of word.Unlock Do) (Locks (Unlock o t unlocked) ∷ []) (pos 0)

abbrev pub unlock_do : State → ObjNo → Option ObjNo → Decision
unlock_do S t None = nothing
unlock_do S t (Some o) = unlock_by t o (unlock_answer (owner_at S.synchronization.locks o) t (best_waiter (priority_of S) S.synchronization.locks o))

abbrev pub unlock_step : State → ObjNo → ThreadRow → ℕ → Option Part → Decision
unlock_step S t row x None = look_kind S t row Mutex word.Unlock x
unlock_step S t row x (Some part) = unlock_do S t row.uses
