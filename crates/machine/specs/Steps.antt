-- The decision of each task of a thread.
use Rattle.std.specs.Prelude.{Bool, true, false, [], ◌∷◌, Option, Some, None}
use Rattle.sym_base.specs.declared.number.ObjNo.{ObjNo}
use Rattle.script_types.specs.declared.script.Script.{Script}
use Rattle.script_types.specs.declared.instruction.Instr.{Instr}
use Rattle.script_types.specs.declared.instruction.Instr.TheVariants as instr
use Rattle.entry_log.specs.declared.step.Part.{Part}
use Rattle.entry_log.specs.declared.step.Step.{Step}
use Rattle.entry_log.specs.declared.step.Step.TheVariants as step
use Rattle.state_rows.specs.declared.duty.Owed.{Owed}
use Rattle.state_rows.specs.declared.duty.Owed.TheVariants.{Close, Sweep}
use Rattle.machine.specs.declared.decision.Decision.{Decision}
use Rattle.machine.specs.declared.moves.Move.TheVariants as move
use Rattle.machine.specs.declared.task.Task.{Task}
use Rattle.machine.specs.declared.task.Task.TheVariants as task
use Rattle.state_rows.specs.declared.thread.ThreadRow.{ThreadRow}
use Rattle.machine.specs.declared.state.State.{State}
use Rattle.machine.specs.Rows.{thread_of}
use Rattle.machine.specs.Decide.{nothing}
use Rattle.machine.specs.Create.{create_mutex_do, create_semaphore_do}
use Rattle.machine.specs.Dup.{dup_step, duplocal_step}
use Rattle.machine.specs.Open.{open_step, open_return}
use Rattle.machine.specs.Close.{close_do}
use Rattle.machine.specs.FastMutex.{flock_step, funlock_do}
use Rattle.machine.specs.FastSemaphore.{fswait_step, fssignal_do}
use Rattle.machine.specs.CriticalSection.{enter_do, leave_do, flush}
use Rattle.machine.specs.ThreadCalls.{suspend_step, resume_step, priority_step}
use Rattle.machine.specs.MutexCalls.{lock_step, unlock_step}
use Rattle.machine.specs.SemaphoreCalls.{wait_step, signal_step}
use Rattle.machine.specs.MemoryCalls.{fill_do, peek_do}
use Rattle.machine.specs.Queueing.{queue_do}
use Rattle.machine.specs.RequestCalls.{request_do, cancel_do, waitany_step, waitfor_step, status_do}
use Rattle.machine.specs.Bodies.{run_body}
use Rattle.machine.specs.Dooms.{end, plain_exit}
use Rattle.machine.specs.ExitCalls.{exit_step, exittype_step, exit_do}
use Rattle.machine.specs.LogonCalls.{logon_step}
use Rattle.machine.specs.ServerCalls.{server_do, receive_step, complete_do, function_do}
use Rattle.machine.specs.Copying.{read_step, write_step}
use Rattle.machine.specs.SessionCalls.{connect_step, connect_return, send_step, call_step}
use Rattle.machine.specs.Reaping.{give_up, clean, bury}
use Rattle.sym_base.specs.declared.kind.ExitKind.TheVariants as kind
use Rattle.sym_base.specs.declared.word.Word.TheVariants as word
use Rattle.machine.specs.declared.plan.Body.TheVariants.{Deferred}
use Rattle.machine.specs.Task.{task_of, may_act}

-- an instruction's step, by the part that is next, None being its first
abbrev pub step_of : Script → State → ObjNo → ThreadRow → Instr → Option Part → Decision
step_of script S t row (instr.CreateMutex name x) p = create_mutex_do S t row name x
step_of script S t row (instr.CreateSemaphore name count x) p = create_semaphore_do S t row name count x
step_of script S t row (instr.Open kind name x) p = open_step S t row kind name x p
step_of script S t row (instr.Dup x y) p = dup_step S t row x y p
step_of script S t row (instr.DupLocal x y) p = duplocal_step S t row x y p
step_of script S t row (instr.Close x) p = close_do S t row x
step_of script S t row (instr.Lock x) p = lock_step S t row x p
step_of script S t row (instr.Unlock x) p = unlock_step S t row x p
step_of script S t row (instr.Wait x) p = wait_step S t row x p
step_of script S t row (instr.Signal x) p = signal_step S t row x p
step_of script S t row (instr.Flock f) p = flock_step S t f p
step_of script S t row (instr.Funlock f) p = funlock_do S t f
step_of script S t row instr.Fswait p = fswait_step S t p
step_of script S t row (instr.Fssignal name) p = fssignal_do S t name
step_of script S t row instr.Enter p = enter_do t
step_of script S t row instr.Leave p = leave_do S t
step_of script S t row (instr.Suspend x) p = suspend_step S t row x p
step_of script S t row (instr.Resume x) p = resume_step S t row x p
step_of script S t row (instr.Priority x priority) p = priority_step S t row x priority p
step_of script S t row (instr.Queue name) p = queue_do script S t name
step_of script S t row (instr.Request d s) p = request_do S t d s
step_of script S t row (instr.Cancel d) p = cancel_do S t d
step_of script S t row instr.WaitAny p = waitany_step S t p
step_of script S t row (instr.WaitFor s) p = waitfor_step S t s p
step_of script S t row (instr.Status s) p = status_do S t s
step_of script S t row (instr.Fill at length byte) p = fill_do t row at length byte
step_of script S t row (instr.Peek at) p = peek_do S t row at
step_of script S t row (instr.Kill x reason) p = exit_step S t row word.Kill x (plain_exit kind.Kill reason) p
step_of script S t row (instr.Terminate x reason) p = exit_step S t row word.Terminate x (plain_exit kind.Terminate reason) p
step_of script S t row (instr.Panic x category reason) p = exit_step S t row word.Panic x (record { kind = kind.Panic; category = category; reason = reason }) p
step_of script S t row (instr.ExitType x) p = exittype_step S t row x p
step_of script S t row (instr.Logon x s) p = logon_step S t row x s p
step_of script S t row (instr.Exit reason) p = exit_do S t reason
step_of script S t row (instr.Server name x) p = server_do S t name x
step_of script S t row (instr.Connect name slots x) p = connect_step S t row name slots x p
step_of script S t row (instr.Send x function y args) p = send_step S t row x function y args p
step_of script S t row (instr.Call x function args) p = call_step S t row x function args p
step_of script S t row (instr.Receive x y) p = receive_step S t row x y p
step_of script S t row (instr.Complete y code) p = complete_do S t row y code
step_of script S t row (instr.Function y) p = function_do S t row y
step_of script S t row (instr.Read y arg offset length at) p = read_step S t row y arg offset length at p
step_of script S t row (instr.Write y arg offset length from) p = write_step S t row y arg offset length from p

-- the return of an instruction that found an object
abbrev pub return_of : State → ObjNo → ThreadRow → Instr → Decision
return_of S t row (instr.Open kind name x) = open_return S t row
return_of S t row (instr.Connect name slots x) = connect_return S t row
return_of S t row _ = nothing

-- what is owed is paid by one action each
abbrev pub pay_step : Owed → Step
pay_step (Close h o) = step.Drop
pay_step (Sweep o) = step.Sweep

abbrev pub pay : Owed → Decision
pay what = record { step = pay_step what; moves = move.Pay what ∷ []; answer = None }

-- the decision of a task
abbrev pub decision_of_task : Script → State → ObjNo → ThreadRow → Task → Decision
decision_of_task script S t row (task.Return instr) = return_of S t row instr
decision_of_task script S t row (task.Pay what) = pay what
decision_of_task script S t row (task.RunDfc dfc) = run_body script t S (Deferred dfc)
decision_of_task script S t row (task.GiveUp what) = give_up S t row what
decision_of_task script S t row task.Clean = clean script S t row
decision_of_task script S t row (task.Bury dfc) = bury script S dfc
decision_of_task script S t row (task.Step instr) = step_of script S t row instr row.part
decision_of_task script S t row task.Flush = flush S t
decision_of_task script S t row task.End = end t

-- a thread that has nothing to do does nothing
abbrev pub decision_of_row : Script → State → ObjNo → Option ThreadRow → Option Task → Decision
decision_of_row script S t (Some row) (Some what) = decision_of_task script S t row what
decision_of_row script S t _ _ = nothing

-- what a thread does in its next action; one that may not act does nothing
abbrev pub decision_where : Script → Bool → State → ObjNo → Option Task → Decision
decision_where script false S t task = nothing
decision_where script true S t task = decision_of_row script S t (thread_of S t) task

abbrev pub decision_of : Script → State → ObjNo → Decision
decision_of script S t = decision_where script (may_act script S t) S t (task_of script S t)
