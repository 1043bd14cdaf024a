-- `request`, `cancel`, `waitany`, `waitfor` and `status`: asynchronous requests of devices.
use Rattle.std.specs.Prelude.{ℕ, pos, ◌==◌, ◌||◌, is_some, if◌then◌else◌, [], ◌∷◌, Option, Some, None}
use Rattle.sym_base.specs.ErrorCode.{error_code}
use Rattle.sym_base.specs.declared.error.Error.TheVariants as error
use Rattle.sym_base.specs.declared.number.ObjNo.{ObjNo}
use Rattle.sym_base.specs.declared.word.Word.TheVariants.{Request, Cancel, Waitany, Waitfor, Status}
use Rattle.entry_log.specs.declared.step.Step.TheVariants.{Of}
use Rattle.entry_log.specs.declared.step.Part.{Part}
use Rattle.entry_log.specs.declared.step.Part.TheVariants.{Do, Done}
use Rattle.state_rows.specs.Requests.{request_at, status_of, value_of, is_pending, signal_count}
use Rattle.machine.specs.declared.decision.Decision.{Decision}
use Rattle.machine.specs.declared.moves.Move.TheVariants.{Requests}
use Rattle.machine.specs.declared.request_move.RequestMove.TheVariants.{Begin, Complete, TakeSignal}
use Rattle.state_rows.specs.declared.thread.Waiting.TheVariants as waiting
use Rattle.machine.specs.declared.state.State.{State}
use Rattle.machine.specs.Decide.{answer, refuse, wait_for, unless_holding}

-- the status is pending, or the device has a request already: in use; else the device has this one
abbrev pub request_do : State → ObjNo → ℕ → ℕ → Decision
request_do S t d s =
    if is_pending S.synchronization.requests t s || is_some (request_at S.synchronization.requests d) then refuse t (Of Request Do) error.InUse
    else answer t (Of Request Do) (Requests (Begin d t s) ∷ []) (pos 0)

-- the device has no request of the thread: not found; else that is completed as cancelled
abbrev pub cancel_status : ObjNo → ℕ → Option ℕ → Decision
cancel_status t d None = refuse t (Of Cancel Do) error.NotFound
cancel_status t d (Some s) = answer t (Of Cancel Do) (Requests (Complete d t s (error_code error.Cancel)) ∷ []) (pos 0)

abbrev pub cancel_do : State → ObjNo → ℕ → Decision
cancel_do S t d = cancel_status t d (status_of t (request_at S.synchronization.requests d))

-- a signal is there: the thread takes it; else it waits for one
abbrev pub waitany_do : State → ObjNo → Decision
waitany_do S t =
    if signal_count S.synchronization.requests t == 0 then wait_for t (Of Waitany Do) waiting.Any
    else answer t (Of Waitany Do) (Requests (TakeSignal t) ∷ []) (pos 0)

abbrev pub waitany_step : State → ObjNo → Option Part → Decision
waitany_step S t None = unless_holding S t (Of Waitany Do) (waitany_do S t)
waitany_step S t (Some part) = answer t (Of Waitany Done) (Requests (TakeSignal t) ∷ []) (pos 0)

-- the status is completed and a signal is there: the thread takes that, and the status is answered; else it waits for both
abbrev pub waitfor_do : State → ObjNo → ℕ → Decision
waitfor_do S t s =
    if is_pending S.synchronization.requests t s || signal_count S.synchronization.requests t == 0 then wait_for t (Of Waitfor Do) (waiting.Status s)
    else answer t (Of Waitfor Do) (Requests (TakeSignal t) ∷ []) (value_of S.synchronization.requests t s)

abbrev pub waitfor_step : State → ObjNo → ℕ → Option Part → Decision
waitfor_step S t s None = unless_holding S t (Of Waitfor Do) (waitfor_do S t s)
waitfor_step S t s (Some part) = answer t (Of Waitfor Done) (Requests (TakeSignal t) ∷ []) (value_of S.synchronization.requests t s)

-- the value of a status
abbrev pub status_do : State → ObjNo → ℕ → Decision
status_do S t s = answer t (Of Status Do) [] (value_of S.synchronization.requests t s)
