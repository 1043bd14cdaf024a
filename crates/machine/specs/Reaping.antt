-- How a doomed thread gives up what it has, one thing an action, and is cleaned and buried at last.
use Rattle.std.specs.Prelude.{ℕ, ◌+◌, ◌==◌, ◌&&◌, Bool, true, false, length, option_map, position, List, [], ◌∷◌, Option, Some, None}
use Rattle.sym_base.specs.declared.number.ObjNo.{ObjNo}
use Rattle.script_types.specs.declared.script.Script.{Script}
use Rattle.entry_log.specs.declared.effect.Holder.TheVariants.{Temp, Link, Own}
use Rattle.entry_log.specs.declared.step.Step.TheVariants as step
use Rattle.state_rows.specs.Deferred.{queue_of}
use Rattle.state_rows.specs.DeferredChanges.{first_burial}
use Rattle.state_rows.specs.Locks.{best_waiter}
use Rattle.state_rows.specs.declared.thread.Role.{Role}
use Rattle.state_rows.specs.declared.thread.Role.TheVariants.{Supervisor, Queue, Declared}
use Rattle.state_rows.specs.declared.thread.Stage.{Stage}
use Rattle.state_rows.specs.declared.thread.Stage.TheVariants.{Cleaned}
use Rattle.state_rows.specs.declared.thread.ThreadRow.{ThreadRow}
use Rattle.machine.specs.declared.death_move.DeathMove.TheVariants as death
use Rattle.machine.specs.declared.decision.Decision.{Decision}
use Rattle.machine.specs.declared.deferred_move.DeferredMove.TheVariants.{Take}
use Rattle.machine.specs.declared.holding.Holding.{Holding}
use Rattle.machine.specs.declared.holding.Holding.TheVariants.{Mutex, Message as OfMessage, Link as OfLink, Server as OfServer, Use, Handle, Logon}
use Rattle.machine.specs.declared.lock_move.LockMove.TheVariants.{Free}
use Rattle.machine.specs.declared.logon_move.LogonMove.TheVariants.{Remove}
use Rattle.machine.specs.declared.moves.Move.{Move}
use Rattle.machine.specs.declared.moves.Move.TheVariants.{Lose, Wake, Requests, Locks, Logons, Death, Deferred, Servers}
use Rattle.machine.specs.declared.request_move.RequestMove.TheVariants.{Signal}
use Rattle.machine.specs.declared.state.State.{State}
use Rattle.sym_base.specs.ErrorCode.{error_code}
use Rattle.sym_base.specs.declared.error.Error.TheVariants.{ServerTerminated}
use Rattle.state_rows.specs.declared.messages.Message.{Message}
use Rattle.state_rows.specs.MessageRows.{message_of}
use Rattle.machine.specs.declared.server_move.ServerMove.TheVariants.{End}
use Rattle.machine.specs.Closing.{close_moves}
use Rattle.machine.specs.Decide.{nothing}
use Rattle.machine.specs.Messaging.{finish}
use Rattle.machine.specs.Rows.{thread_of}
use Rattle.machine.specs.Choice.{priority_of}
use Rattle.machine.specs.Bodies.{add_call, end_wait}
use Rattle.machine.specs.LogonCalls.{reason_of}

-- the waiter that gets a mutex waits no longer
abbrev pub wake_next : Option ObjNo → List Move
wake_next None = []
wake_next (Some w) = Wake w ∷ []

-- a mutex goes, with all its levels at once
abbrev pub free_mutex : ObjNo → ObjNo → Option ObjNo → Decision
free_mutex t o best = record { step = step.Free; moves = Locks (Free o t best) ∷ wake_next best; answer = None }

-- a logon goes, and its status is completed with the reason of the exit
abbrev pub tell_logon : State → ObjNo → ThreadRow → ObjNo → ℕ → Decision
tell_logon S t row u s = record {
  step = step.Tell;
  moves = Logons (Remove t u s) ∷ Requests (Signal u s (reason_of row.exit)) ∷ end_wait S u s (thread_of S u);
  answer = None;
}

-- a message is finished, since its server is closing
abbrev pub finish_message : State → Option Message → Decision
finish_message S None = nothing
finish_message S (Some message) = record { step = step.Finish; moves = finish S message (error_code ServerTerminated); answer = None }

-- the link of a session goes, and at last the server, whose end is told
abbrev pub detach : ObjNo → ObjNo → Decision
detach s o = record { step = step.Detach; moves = Lose (Link s) o ∷ []; answer = None }

abbrev pub stop : ObjNo → ObjNo → Decision
stop t o = record { step = step.Stop; moves = Servers (End o) ∷ Lose (Own t) o ∷ []; answer = None }

-- one thing goes
abbrev pub give_up : State → ObjNo → ThreadRow → Holding → Decision
give_up S t row (Mutex o) = free_mutex t o (best_waiter (priority_of S) S.synchronization.locks o)
give_up S t row (OfMessage m) = finish_message S (message_of S.serving.messages m)
give_up S t row (OfLink s o) = detach s o
give_up S t row (OfServer o) = stop t o
give_up S t row (Use o) = record { step = step.Drop; moves = Lose (Temp t) o ∷ []; answer = None }
give_up S t row (Handle h o) = record { step = step.Shut; moves = close_moves S t h o; answer = None }
give_up S t row (Logon u s) = tell_logon S t row u s

-- how many threads come before one in order of object number: the supervisor is the first, then come the threads of the queues, and then the
-- declared ones
abbrev pub threads_before : Script → Role → ℕ
threads_before script Supervisor = 0
threads_before script (Queue queue) = queue
threads_before script (Declared k) = 1 + length script.queues + k

-- the call that buries a thread: the burials follow one another in the order of the threads
abbrev pub burial_of : Script → Role → ℕ
burial_of script role = first_burial + threads_before script role

-- nothing is left: the thread is cleaned, and its burial joins the supervisor's queue
abbrev pub clean : Script → State → ObjNo → ThreadRow → Decision
clean script S t row = record { step = step.Clean; moves = Death (death.Clean t) ∷ add_call S (burial_of script row.role) ∷ []; answer = None }

-- the cleaned thread whose burial a call is
abbrev pub is_cleaned : Stage → Bool
is_cleaned Cleaned = true
is_cleaned _ = false

abbrev pub is_buried_by : Script → ℕ → Option ThreadRow → Bool
is_buried_by script dfc None = false
is_buried_by script dfc (Some row) = burial_of script row.role == dfc && is_cleaned row.stage

abbrev pub buried_by : Script → State → ℕ → Option ObjNo
buried_by script S dfc = option_map (λ n. record { 0 = n }) (position (is_buried_by script dfc) S.references.threads)

abbrev pub bury_found : Option ObjNo → List Move
bury_found None = []
bury_found (Some u) = Death (death.Bury u) ∷ []

-- the call leaves its queue, and the thread is buried
abbrev pub bury : Script → State → ℕ → Decision
bury script S dfc = record {
  step = step.Bury;
  moves = Deferred (Take (queue_of S.synchronization.deferred dfc)) ∷ bury_found (buried_by script S dfc);
  answer = None;
}
