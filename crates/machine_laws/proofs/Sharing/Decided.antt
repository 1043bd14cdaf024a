-- What one caller alone decides is the same where callers share the kernel.
use Rattle.std.proofs.Common.{◌≡◌, ℕ, List, [], ◌∷◌, ◌++◌, refl, ap, subst, ◌∙◌, Option, Some, None, Bool, true}
use Rattle.std.specs.Prelude.{if◌then◌else◌}
use Rattle.sym_base.specs.declared.number.ObjNo.{ObjNo}
use Rattle.script_types.specs.declared.script.Script.{Script}
use Rattle.script_types.specs.declared.declaration.Op.{Op}
use Rattle.state_rows.specs.Nano.{is_protected}
use Rattle.state_rows.specs.ServerRows.{is_closing}
use Rattle.state_rows.specs.declared.thread.ThreadRow.{ThreadRow}
use Rattle.machine.specs.declared.decision.Decision.{Decision}
use Rattle.machine.specs.declared.holding.Holding.{Holding}
use Rattle.machine.specs.declared.moves.Move.{Move}
use Rattle.machine.specs.declared.plan.Body.{Body}
use Rattle.machine.specs.declared.plan.Body.TheVariants.{Deferred}
use Rattle.machine.specs.declared.plan.Plan.{Plan}
use Rattle.machine.specs.declared.plan.Plan.TheVariants.{Decided, Runs}
use Rattle.machine.specs.declared.state.State.{State}
use Rattle.machine.specs.declared.task.Task.{Task}
use Rattle.machine.specs.declared.task.Task.TheVariants.{RunDfc}
use Rattle.machine.specs.Bodies.{decision_by, leave_queue, op_moves, ops_moves, ops_of, run_body, step_of_body}
use Rattle.machine.specs.Holdings.{closing_holdings, held_handles, held_logons, held_mutexes, held_servers, held_use, holdings, process_handles, server_holdings}
use Rattle.machine.specs.Moves.{perform, tell}
use Rattle.machine.specs.Out.{is_returning}
use Rattle.machine.specs.Rows.{first_owed, table_of, thread_of}
use Rattle.machine.specs.Steps.{decision_of_row, decision_of_task}
use Rattle.machine.specs.Task.{by_stage, instruction, live_task, next_call, pay_or, return_or, step_or_end, task_of, task_of_row, work_or}
use Rattle.machine.specs.ServerMoves.{owned_by}
use Rattle.entry_log.specs.declared.effect.Holder.TheVariants.{InThread}
use Rattle.machine_laws.proofs.Reached.Modes.{mode-perform}
use Rattle.machine_laws.proofs.Sharing.Moved.{alone-like, in_mode, IsAlone, TellsNoDeath, perform-mode, silent-front, silent-rest, tell-both}

module _ (script : Script) (keep : Bool) (S : State) (t : ObjNo) where
  -- what a thread has, and so its task
  closing-mode : (os : List ObjNo) → closing_holdings (in_mode true keep S) os ≡ closing_holdings S os
  closing-mode [] = refl
  closing-mode (o ∷ os) = ap (λ (rest : List Holding). (if is_closing S.serving.servers o then server_holdings S o else []) ++ rest) (closing-mode os)

  servers-mode : held_servers (in_mode true keep S) t ≡ held_servers S t
  servers-mode = closing-mode (owned_by S.serving.owned t)

  holdings-mode : (row : ThreadRow) → holdings (in_mode true keep S) t row ≡ holdings S t row
  holdings-mode row =
      ap (λ (servers : List Holding). held_mutexes S t ++ servers ++ held_use row.uses ++ held_handles
      (λ (i : ℕ). InThread t i) 0 (table_of S t) ++ process_handles S t row.process ++ held_logons S t) servers-mode

  abbrev task_with : ThreadRow → List Holding → List Holding → Option Task
  task_with row has servers =
      return_or (is_returning row.part) (instruction script row)
      (pay_or (first_owed S t)
      (by_stage row.stage has
      (live_task row.role (next_call S.synchronization.deferred row.role)
      (work_or servers (step_or_end (is_protected S.synchronization.nano t) (instruction script row))))))

  row-mode : (row : Option ThreadRow) → task_of_row script (in_mode true keep S) t row ≡ task_of_row script S t row
  row-mode None = refl
  row-mode (Some row) =
      ap (λ (has : List Holding). task_with row has (held_servers (in_mode true keep S) t)) (holdings-mode row)
      ∙ ap (task_with row (holdings S t row)) servers-mode

  pub task-mode : task_of script (in_mode true keep S) t ≡ task_of script S t
  task-mode = row-mode (thread_of S t)

-- what operations do, one after the other
ops-mode : (script : Script) (keep : Bool) (t : ObjNo) (S : State) (ops : List Op) → IsAlone S
    → TellsNoDeath keep (tell t (ops_moves script t S ops) S)
    → ops_moves script t (in_mode true keep S) ops ≡ ops_moves script t S ops
ops-mode script keep t S [] alone silent = refl
ops-mode script keep t S (first ∷ rest) alone silent =
    let ms = op_moves script S first in
    let T = perform t ms S in
    let more = ops_moves script t T rest in
    let both : TellsNoDeath keep (tell t ms S ++ tell t more T) = subst (TellsNoDeath keep) (tell-both t ms more S) silent in
    ap (λ (U : State). ms ++ ops_moves script t U rest) (perform-mode keep t ms S alone (silent-front keep (tell t ms S) (tell t more T) both))
    ∙ ap (λ (l : List Move). ms ++ l) (ops-mode script keep t T rest (alone-like S T (mode-perform S t ms) alone)
    (silent-rest keep (tell t ms S) (tell t more T) both))

-- what a body does
pub body-mode : (script : Script) (keep : Bool) (t : ObjNo) (S : State) (body : Body) → IsAlone S
    → TellsNoDeath keep (tell t (run_body script t S body).moves S)
    → run_body script t (in_mode true keep S) body ≡ run_body script t S body
body-mode script keep t S body alone silent =
    let leave = leave_queue S body in
    let T = perform t leave S in
    let more = ops_moves script t T (ops_of script body) in
    let both : TellsNoDeath keep (tell t leave S ++ tell t more T) = subst (TellsNoDeath keep) (tell-both t leave more S) silent in
    ap with
    (ap (λ (U : State). leave ++ ops_moves script t U (ops_of script body))
    (perform-mode keep t leave S alone (silent-front keep (tell t leave S) (tell t more T) both))
    ∙ ap (λ (l : List Move). leave ++ l) (ops-mode script keep t T (ops_of script body) (alone-like S T (mode-perform S t leave) alone)
    (silent-rest keep (tell t leave S) (tell t more T) both)))
  where
    with : List Move → Decision
    with ms = record { step = step_of_body script body; moves = ms; answer = None }

pub plan-mode : (script : Script) (keep : Bool) (t : ObjNo) (S : State) (plan : Plan) → IsAlone S
    → TellsNoDeath keep (tell t (decision_by script t S plan).moves S)
    → decision_by script t (in_mode true keep S) plan ≡ decision_by script t S plan
plan-mode script keep t S (Decided d) alone silent = refl
plan-mode script keep t S (Runs body) alone silent = body-mode script keep t S body alone silent

-- what a thread does
decision-mode : (script : Script) (keep : Bool) (t : ObjNo) (S : State) (row : ThreadRow) (task : Task) → IsAlone S
    → TellsNoDeath keep (tell t (decision_of_task script S t row task).moves S)
    → decision_of_task script (in_mode true keep S) t row task ≡ decision_of_task script S t row task
decision-mode script keep t S row (RunDfc dfc) alone silent = body-mode script keep t S (Deferred dfc) alone silent
decision-mode script keep t S row _ alone silent = refl

pub decided-mode : (script : Script) (keep : Bool) (t : ObjNo) (S : State) (row : Option ThreadRow) (task : Option Task)
    → IsAlone S → TellsNoDeath keep (tell t (decision_of_row script S t row task).moves S)
    → decision_of_row script (in_mode true keep S) t row task ≡ decision_of_row script S t row task
decided-mode script keep t S (Some row) (Some task) alone silent = decision-mode script keep t S row task alone silent
decided-mode script keep t S (Some row) None alone silent = refl
decided-mode script keep t S None task alone silent = refl
