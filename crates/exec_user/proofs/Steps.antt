-- The step of an instruction that a thread is at is what the thread does next, and its moves go through.
use Rattle.std.proofs.Common.{◌≡◌, ◌∙◌, true, ap, subst}
use Rattle.std.specs.Prelude.{◌||◌, Bool, Option}
use Rattle.sym_base.specs.declared.number.ObjNo.{ObjNo}
use Rattle.script_types.specs.declared.instruction.Instr.{Instr}
use Rattle.script_types.specs.declared.script.Script.{Script}
use Rattle.script_types.specs.declared.source_line.SourceLine.TheVariants as line
use Rattle.script_types.specs.Ranges.{is_source_line}
use Rattle.script_types.specs.Shape.{HasRegisters, IsShaped}
use Rattle.machine.specs.declared.decision.Decision.{Decision}
use Rattle.machine.specs.declared.state.State.{State}
use Rattle.machine.specs.declared.task.Task.{Task}
use Rattle.machine.specs.Out.{is_out}
use Rattle.machine.specs.Rows.{thread_of}
use Rattle.machine.specs.Steps.{decision_of, decision_where}
use Rattle.machine.specs.Task.{task_of}
use Rattle.machine.specs.WellFormed.{AreRows}
use Rattle.machine.proofs.Instructions.{task_has_registers, task_has_ranges}
use Rattle.kernel_tables.specs.Performed.{ActionGoes}
use Rattle.kernel_tables.proofs.GoingActions.{able_goes}
use Rattle.exec_user.specs.Stepping.{IsAtStep, step_at}

-- what the thread does next is the step
pub step_decided : (script : Script) (S : State) (t : ObjNo) (instr : Instr) → IsAtStep script S t instr → decision_of script S t ≡ step_at script S t instr
step_decided script S t instr at =
    ap (λ (able : Bool). decision_where script (able || is_out S t) S t (task_of script S t)) at.able
    ∙ ap (λ (what : Option Task). decision_where script true S t what) at.next

-- its moves go through
pub step_goes : (script : Script) (S : State) (t : ObjNo) (instr : Instr) → IsShaped script → AreRows script S
    → IsAtStep script S t instr → ActionGoes script t (step_at script S t instr).moves S
step_goes script S t instr shaped rows at =
    subst (λ (d : Decision). ActionGoes script t d.moves S) (step_decided script S t instr at) (able_goes script S t shaped rows at.able)

-- its registers are those that there are
pub step_registers : (script : Script) (S : State) (t : ObjNo) (instr : Instr) → IsShaped script → IsAtStep script S t instr → HasRegisters instr
step_registers script S t instr shaped at =
    task_has_registers script S t (thread_of S t) instr shaped at.next

-- its numbers are in their ranges
pub step_ranges : (script : Script) (S : State) (t : ObjNo) (instr : Instr) → IsShaped script
    → IsAtStep script S t instr → is_source_line (line.Instr instr) ≡ true
step_ranges script S t instr shaped at =
    task_has_ranges script S t (thread_of S t) instr shaped at.next
