-- One step of an instruction: what it decides, and when it can be made.
use Rattle.std.specs.Prelude.{◌≡◌, IsTrue, Some}
use Rattle.sym_base.specs.declared.number.ObjNo.{ObjNo}
use Rattle.script_types.specs.declared.instruction.Instr.{Instr}
use Rattle.script_types.specs.declared.script.Script.{Script}
use Rattle.machine.specs.declared.decision.Decision.{Decision}
use Rattle.machine.specs.declared.state.State.{State}
use Rattle.machine.specs.declared.task.Task.TheVariants.{Step}
use Rattle.machine.specs.Rows.{thread_of}
use Rattle.machine.specs.Steps.{decision_of_row}
use Rattle.machine.specs.Task.{is_able, task_of}

-- what the step of an instruction decides that a thread is at
abbrev pub step_at : Script → State → ObjNo → Instr → Decision
step_at script S t instr = decision_of_row script S t (thread_of S t) (Some (Step instr))

-- a thread may make a step of an instruction: it is able, and the step is its next task
pub record IsAtStep (script : Script) (S : State) (t : ObjNo) (instr : Instr) : Type 0 where
  pub able : IsTrue (is_able script S t)
  pub next : task_of script S t ≡ Some (Step instr)
