-- What a thread does next.
use Rattle.std.specs.Prelude.{ℕ, nat_lt, Bool, true, false, not, ◌&&◌, ◌||◌, ◌==◌, is_some, is_none, if◌then◌else◌, List, [], ◌∷◌, Option, Some, None, option_and_then, option_map, slice_get}
use Rattle.sym_base.specs.declared.number.ObjNo.{ObjNo}
use Rattle.script_types.specs.declared.script.Script.{Script}
use Rattle.script_types.specs.declared.declaration.ThreadDecl.{ThreadDecl}
use Rattle.script_types.specs.declared.instruction.Instr.{Instr}
use Rattle.state_rows.specs.Deferred.{next_of}
use Rattle.state_rows.specs.DeferredChanges.{first_burial}
use Rattle.state_rows.specs.declared.deferred.DeferredRows.{DeferredRows}
use Rattle.state_rows.specs.Nano.{suspend_count, is_protected, wanted_holder}
use Rattle.state_rows.specs.declared.duty.Owed.{Owed}
use Rattle.machine.specs.declared.task.Task.{Task}
use Rattle.machine.specs.declared.task.Task.TheVariants.{Return, Pay, GiveUp, Clean, RunDfc, Bury, Step, Flush, End}
use Rattle.state_rows.specs.declared.thread.Role.{Role}
use Rattle.state_rows.specs.declared.thread.Role.TheVariants.{Supervisor, Queue, Declared}
use Rattle.state_rows.specs.declared.thread.Stage.{Stage}
use Rattle.state_rows.specs.declared.thread.Stage.TheVariants.{Live, Doomed, Cleaned, Buried}
use Rattle.state_rows.specs.declared.thread.Waiting.{Waiting}
use Rattle.state_rows.specs.declared.thread.Waiting.TheVariants.{Nothing}
use Rattle.state_rows.specs.declared.thread.ThreadRow.{ThreadRow}
use Rattle.machine.specs.declared.state.State.{State}
use Rattle.machine.specs.declared.holding.Holding.{Holding}
use Rattle.machine.specs.Holdings.{holdings, held_servers}
use Rattle.machine.specs.Out.{is_out, is_returning}
use Rattle.machine.specs.Rows.{thread_of, first_owed}
use Rattle.machine.specs.ThreadCalls.{is_live}

-- the declaration of a thread: the supervisor and the thread of a queue have none
abbrev pub declared_of : Script → Role → Option ThreadDecl
declared_of script Supervisor = None
declared_of script (Queue queue) = None
declared_of script (Declared k) = slice_get script.threads k

-- the instructions of a declaration
abbrev pub instructions_in : Option ThreadDecl → List Instr
instructions_in None = []
instructions_in (Some declared) = declared.instrs

-- the instructions of a thread
abbrev pub instructions_of : Script → Role → List Instr
instructions_of script role = instructions_in (declared_of script role)

-- the instruction that a thread is at, None at its list's end
abbrev pub instruction : Script → ThreadRow → Option Instr
instruction script row = slice_get (instructions_of script row.role) row.next_instruction

-- at its list's end a thread gives up what protects it, if it is protected, and else it ends
abbrev pub end_task : Bool → Task
end_task protected = if protected then Flush else End

abbrev pub step_or_end : Bool → Option Instr → Task
step_or_end protected None = end_task protected
step_or_end protected (Some instr) = Step instr

-- the queue of deferred function calls that a thread serves
abbrev pub served_queue : Role → Option ℕ
served_queue Supervisor = Some 0
served_queue (Queue queue) = Some queue
served_queue (Declared k) = None

-- the call of its queue that comes next
abbrev pub next_call : DeferredRows → Role → Option ℕ
next_call r role = option_and_then (next_of r) (served_queue role)

-- the calls before the first burial are the declared ones, and the others are burials
abbrev pub call_task : ℕ → Task
call_task dfc = if nat_lt dfc first_burial then RunDfc dfc else Bury dfc

-- the work of closing servers comes before what a thread does else
abbrev pub work_or : List Holding → Task → Task
work_or [] own = own
work_or (what ∷ rest) own = GiveUp what

-- a thread that serves a queue runs the next call of it, and has no instructions and no servers
abbrev pub live_task : Role → Option ℕ → Task → Option Task
live_task (Declared k) call own = Some own
live_task role call own = option_map call_task call

-- a doomed thread gives up the first of what it has, and at last is cleaned
abbrev pub dying_task : List Holding → Task
dying_task [] = Clean
dying_task (what ∷ rest) = GiveUp what

-- a cleaned or buried thread does nothing
abbrev pub by_stage : Stage → List Holding → Option Task → Option Task
by_stage Live has own = own
by_stage Doomed has own = Some (dying_task has)
by_stage Cleaned has own = None
by_stage Buried has own = None

-- the oldest of what a thread owes comes before these
abbrev pub pay_or : Option Owed → Option Task → Option Task
pay_or None other = other
pay_or (Some what) other = Some (Pay what)

-- the return comes before all else
abbrev pub return_or : Bool → Option Instr → Option Task → Option Task
return_or true (Some instr) other = Some (Return instr)
return_or _ _ other = other

abbrev pub task_of_row : Script → State → ObjNo → Option ThreadRow → Option Task
task_of_row script S t None = None
task_of_row script S t (Some row) =
    return_or (is_returning row.part) (instruction script row)
    (pay_or (first_owed S t)
    (by_stage row.stage (holdings S t row)
    (live_task row.role (next_call S.synchronization.deferred row.role)
    (work_or (held_servers S t) (step_or_end (is_protected S.synchronization.nano t) (instruction script row))))))

-- what a thread does next, None where there is nothing
abbrev pub task_of : Script → State → ObjNo → Option Task
task_of script S t = task_of_row script S t (thread_of S t)

-- whether a thread waits
abbrev pub is_wait : Waiting → Bool
is_wait Nothing = false
is_wait _ = true

-- whether it waits, or is out where callers share the kernel
abbrev pub is_waiting_row : Bool → Option ThreadRow → Bool
is_waiting_row shared None = false
is_waiting_row shared (Some row) = is_wait row.waiting || (shared && is_returning row.part)

abbrev pub is_waiting : State → ObjNo → Bool
is_waiting S t = is_waiting_row S.mode.shared (thread_of S t)

-- whether a thread is live
abbrev pub is_live_row : Option ThreadRow → Bool
is_live_row None = false
is_live_row (Some row) = is_live row.stage

-- whether a thread is stopped: it is live and suspended, and nothing protects it from that
abbrev pub is_stopped : State → ObjNo → Bool
is_stopped S t = is_live_row (thread_of S t) && not (suspend_count S.synchronization.nano t == 0) && not (is_protected S.synchronization.nano t)

-- whether a thread is live or doomed: a cleaned or a buried one does nothing any more
abbrev pub is_unspent : Stage → Bool
is_unspent Live = true
is_unspent Doomed = true
is_unspent _ = false

abbrev pub is_unspent_row : Option ThreadRow → Bool
is_unspent_row None = false
is_unspent_row (Some row) = is_unspent row.stage

-- a thread is ready if it is live or doomed, doesn't wait, isn't stopped, and has something to do
abbrev pub is_ready : Script → State → ObjNo → Bool
is_ready script S t = is_unspent_row (thread_of S t) && not (is_waiting S t) && not (is_stopped S t) && is_some (task_of script S t)

-- a thread is able to act where it is ready and doesn't want a fast mutex that is held
abbrev pub is_able : Script → State → ObjNo → Bool
is_able script S t = is_ready script S t && is_none (wanted_holder S.synchronization.nano t)

-- a thread may act where it is able, and where it is out: it may come back at any time, also where it was suspended or doomed meanwhile
abbrev pub may_act : Script → State → ObjNo → Bool
may_act script S t = is_able script S t || is_out S t
