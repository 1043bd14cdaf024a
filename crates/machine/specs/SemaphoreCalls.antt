-- `wait` and `signal`: kernel semaphores. A signal goes to a waiter, or counts where nobody waits.
use Rattle.std.specs.Prelude.{ℕ, pos, ◌==◌, if◌then◌else◌, [], ◌∷◌, Option, Some, None}
use Rattle.sym_base.specs.declared.error.Error.TheVariants as error
use Rattle.sym_base.specs.declared.kind.Kind.TheVariants.{Semaphore}
use Rattle.sym_base.specs.declared.number.ObjNo.{ObjNo}
use Rattle.sym_base.specs.declared.word.Word.TheVariants as word
use Rattle.entry_log.specs.declared.step.Part.{Part}
use Rattle.entry_log.specs.declared.step.Part.TheVariants.{Look, Do, Done}
use Rattle.entry_log.specs.declared.step.Step.TheVariants.{Of}
use Rattle.state_rows.specs.declared.locks.Signalled.{Signalled}
use Rattle.state_rows.specs.declared.locks.Signalled.TheVariants.{Counted, Woke, Overflow}
use Rattle.state_rows.specs.declared.thread.ThreadRow.{ThreadRow}
use Rattle.state_rows.specs.Locks.{count_at, best_waiter}
use Rattle.state_rows.specs.LockChanges.{signal_answer}
use Rattle.machine.specs.declared.decision.Decision.{Decision}
use Rattle.machine.specs.declared.lock_move.LockMove.TheVariants.{WaitOn, Signal}
use Rattle.machine.specs.declared.moves.Move.TheVariants.{Locks, Wake}
use Rattle.machine.specs.declared.state.State.{State}
use Rattle.machine.specs.Choice.{priority_of}
use Rattle.machine.specs.Decide.{nothing, answer, refuse, unless_holding, wait_at}
use Rattle.machine.specs.Look.{look_kind}

-- at count 0 the thread waits; else the count falls
abbrev pub wait_on : ObjNo → ObjNo → ℕ → Decision
wait_on t o count =
    if count == 0 then wait_at t (Of word.Wait Do) o (WaitOn o t)
    else answer t (Of word.Wait Do) (Locks (WaitOn o t) ∷ []) (pos 0)

-- the second step. The look refuses a thread that holds a fast mutex, and so does this: nobody waits with one
abbrev pub wait_do : State → ObjNo → Option ObjNo → Decision
wait_do S t None = nothing
wait_do S t (Some o) = unless_holding S t (Of word.Wait Do) (wait_on t o (count_at S.synchronization.locks o))

-- first the look, then the wait, and once a signal came the answer
abbrev pub wait_step : State → ObjNo → ThreadRow → ℕ → Option Part → Decision
wait_step S t row x None = unless_holding S t (Of word.Wait Look) (look_kind S t row Semaphore word.Wait x)
wait_step S t row x (Some Do) = wait_do S t row.uses
wait_step S t row x (Some part) = answer t (Of word.Wait Done) [] (pos 0)

-- a waiter goes on, or the count rises, but not past the greatest: an overflow
abbrev pub signal_by : ObjNo → ObjNo → Signalled → Decision
signal_by t o Overflow = refuse t (Of word.Signal Do) error.Overflow
signal_by t o (Woke w) = answer t (Of word.Signal Do) (Locks (Signal o (Woke w)) ∷ Wake w ∷ []) (pos 0)
signal_by t o Counted = answer t (Of word.Signal Do) (Locks (Signal o Counted) ∷ []) (pos 0)

abbrev pub signal_do : State → ObjNo → Option ObjNo → Decision
signal_do S t None = nothing
signal_do S t (Some o) = signal_by t o (signal_answer (best_waiter (priority_of S) S.synchronization.locks o) (count_at S.synchronization.locks o))

abbrev pub signal_step : State → ObjNo → ThreadRow → ℕ → Option Part → Decision
signal_step S t row x None = look_kind S t row Semaphore word.Signal x
signal_step S t row x (Some part) = signal_do S t row.uses
