-- What a thread does next, part by part: what is left where it owes nothing, and what is left where it isn't at a return.
use Rattle.std.specs.Prelude.{Option}
use Rattle.sym_base.specs.declared.number.ObjNo.{ObjNo}
use Rattle.script_types.specs.declared.instruction.Instr.{Instr}
use Rattle.state_rows.specs.Nano.{is_protected}
use Rattle.state_rows.specs.declared.thread.ThreadRow.{ThreadRow}
use Rattle.machine.specs.declared.state.State.{State}
use Rattle.machine.specs.declared.task.Task.{Task}
use Rattle.machine.specs.Holdings.{holdings, held_servers}
use Rattle.machine.specs.Rows.{first_owed}
use Rattle.machine.specs.Task.{live_task, next_call, step_or_end, work_or, by_stage, pay_or}

-- of a live thread that serves no queue: the work of its closing servers, its instruction, or what is left at its list's end
abbrev pub own_task : State → ObjNo → Option Instr → Task
own_task S t instr = work_or (held_servers S t) (step_or_end (is_protected S.synchronization.nano t) instr)

-- of a live thread: a call of its queue, or what is its own to do
abbrev pub task_alive : State → ObjNo → ThreadRow → Option Instr → Option Task
task_alive S t row instr = live_task row.role (next_call S.synchronization.deferred row.role) (own_task S t instr)

-- of a thread at any stage
abbrev pub task_at_stage : State → ObjNo → ThreadRow → Option Instr → Option Task
task_at_stage S t row instr = by_stage row.stage (holdings S t row) (task_alive S t row instr)

-- the oldest of what it owes comes before
abbrev pub task_behind_return : State → ObjNo → ThreadRow → Option Instr → Option Task
task_behind_return S t row instr = pay_or (first_owed S t) (task_at_stage S t row instr)
