-- Whether a thread has a task: that doesn't depend on what it still has, nor on what protects it.
use Rattle.std.proofs.Common.{◌≡◌, ℕ, List, [], refl, Option, Some, None, Bool, true, false}
use Rattle.std.specs.Prelude.{is_some}
use Rattle.sym_base.specs.declared.number.ObjNo.{ObjNo}
use Rattle.script_types.specs.declared.instruction.Instr.{Instr}
use Rattle.script_types.specs.declared.script.Script.{Script}
use Rattle.state_rows.specs.Nano.{is_protected}
use Rattle.state_rows.specs.declared.deferred.DeferredRows.{DeferredRows}
use Rattle.state_rows.specs.declared.duty.Owed.{Owed}
use Rattle.state_rows.specs.declared.thread.Role.{Role}
use Rattle.state_rows.specs.declared.thread.Role.TheVariants.{Supervisor, Queue, Declared}
use Rattle.state_rows.specs.declared.thread.Stage.{Stage}
use Rattle.state_rows.specs.declared.thread.Stage.TheVariants.{Live, Doomed, Cleaned, Buried}
use Rattle.state_rows.specs.declared.thread.ThreadRow.{ThreadRow}
use Rattle.machine.specs.Holdings.{held_servers, holdings}
use Rattle.machine.specs.Rows.{first_owed}
use Rattle.machine.specs.Task.{by_stage, instruction, live_task, next_call, pay_or, return_or, step_or_end, task_of_row, work_or}
use Rattle.machine.specs.Out.{is_returning}
use Rattle.machine.specs.declared.holding.Holding.{Holding}
use Rattle.machine.specs.declared.state.State.{State}
use Rattle.machine.specs.declared.task.Task.{Task}
use Rattle.machine.specs.declared.task.Task.TheVariants.{End}

-- whether a thread of this row has a task, with these deferred function calls, and owing this first
abbrev pub has_task : Script → DeferredRows → Option Owed → Option ThreadRow → Bool
has_task script calls first None = false
has_task script calls first (Some row) =
    is_some (return_or (is_returning row.part) (instruction script row)
    (pay_or first (by_stage row.stage [] (live_task row.role (next_call calls row.role) End))))

-- one at any stage, whatever it still has and does of its own
some-live : (role : Role) (call : Option ℕ) (own : Task) → is_some (live_task role call own) ≡ is_some (live_task role call End)
some-live Supervisor None own = refl
some-live Supervisor (Some dfc) own = refl
some-live (Queue queue) None own = refl
some-live (Queue queue) (Some dfc) own = refl
some-live (Declared k) call own = refl

some-stage : (stage : Stage) (has : List Holding) (role : Role) (call : Option ℕ) (own : Task)
    → is_some (by_stage stage has (live_task role call own)) ≡ is_some (by_stage stage [] (live_task role call End))
some-stage Live has role call own = some-live role call own
some-stage Doomed has role call own = refl
some-stage Cleaned has role call own = refl
some-stage Buried has role call own = refl

some-task : (returns : Bool) (at : Option Instr) (first : Option Owed) (stage : Stage) (has : List Holding) (role : Role) (call : Option ℕ) (own : Task)
    → is_some (return_or returns at (pay_or first (by_stage stage has (live_task role call own))))
    ≡ is_some (return_or returns at (pay_or first (by_stage stage [] (live_task role call End))))
some-task true (Some instr) first stage has role call own = refl
some-task true None (Some what) stage has role call own = refl
some-task true None None stage has role call own = some-stage stage has role call own
some-task false at (Some what) stage has role call own = refl
some-task false at None stage has role call own = some-stage stage has role call own

pub task_is : (script : Script) (S : State) (u : ObjNo) (row : Option ThreadRow)
    → is_some (task_of_row script S u row) ≡ has_task script S.synchronization.deferred (first_owed S u) row
task_is script S u None = refl
task_is script S u (Some row) =
    some-task (is_returning row.part) (instruction script row) (first_owed S u) row.stage (holdings S u row) row.role
    (next_call S.synchronization.deferred row.role)
    (work_or (held_servers S u) (step_or_end (is_protected S.synchronization.nano u) (instruction script row)))
