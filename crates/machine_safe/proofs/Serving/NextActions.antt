-- What a thread's next action is: proper moves that begin nothing, or a step of its instruction, or the return from its find.
use Rattle.machine.specs.Bodies.{decision_by}
use Rattle.machine.specs.Interrupts.{immediate_plan, supervisor}
use Rattle.machine_laws.proofs.Fitting.Actions.{FitsAction}
use Rattle.machine_laws.proofs.Fitting.Regular.{Kinds, plain}
use Rattle.state_rows.specs.Deferred.{next_immediate}
use Rattle.std.proofs.Common.{inl, inr, pos}
use Rattle.std.proofs.Common.{Bool, List, None, Option, Some, [], ap, false, refl, true, ℕ, ◌∷◌, ◌≡◌}
use Rattle.std.specs.Prelude.{if◌then◌else◌, is_some, nat_lt, option_map}
use Rattle.sym_base.specs.declared.number.ObjNo.{ObjNo}
use Rattle.script_types.specs.Shape.{IsShaped}
use Rattle.script_types.specs.declared.instruction.Instr.{Instr}
use Rattle.script_types.specs.declared.script.Script.{Script}
use Rattle.state_rows.specs.Nano.{is_protected}
use Rattle.state_rows.specs.declared.duty.Owed.{Owed}
use Rattle.state_rows.specs.declared.thread.Role.{Role}
use Rattle.state_rows.specs.declared.thread.Role.TheVariants.{Declared, Queue, Supervisor}
use Rattle.state_rows.specs.declared.thread.Stage.{Stage}
use Rattle.state_rows.specs.declared.thread.Stage.TheVariants.{Buried, Cleaned, Doomed, Live}
use Rattle.state_rows.specs.declared.thread.ThreadRow.{ThreadRow}
use Rattle.machine.specs.Dooms.{killed}
use Rattle.machine.specs.Holdings.{held_servers, holdings}
use Rattle.machine.specs.Out.{is_returning}
use Rattle.machine.specs.Rows.{first_of, owed_of, thread_of}
use Rattle.machine.specs.Steps.{decision_of, decision_of_row, decision_of_task, decision_where, return_of, step_of}
use Rattle.machine.specs.Task.{by_stage, call_task, dying_task, end_task, instruction, instructions_of, live_task, may_act, next_call, pay_or, return_or, step_or_end, task_of_row, work_or}
use Rattle.machine.specs.WellFormed.{AreRows}
use Rattle.machine.specs.declared.decision.Decision.{Decision}
use Rattle.machine.specs.declared.holding.Holding.{Holding}
use Rattle.machine.specs.declared.plan.Body.TheVariants as body
use Rattle.machine.specs.declared.state.State.{State}
use Rattle.machine.specs.declared.task.Task.{Task}
use Rattle.machine.specs.declared.task.Task.TheVariants.{Bury, RunDfc}
use Rattle.machine_laws.proofs.Fitting.Reaping.{fits-give_up}
use Rattle.machine_laws.proofs.Fitting.ServerEnds.{fits-work}
use Rattle.machine_safe.proofs.Serving.Awake.{awake}
use Rattle.machine_safe.proofs.Serving.Proper.{resting, stepping, AreProper}
use Rattle.machine_safe.proofs.Serving.ProperLists.{proper-body, proper-bury, proper-clean, proper-doom, proper-flush, proper-pay, some-inside}
use Rattle.machine_safe.proofs.Serving.ProperGiving.{proper-give}

pub data Proceeding (script : Script) (S : State) (t : ObjNo) (d : Decision) : Type 0 where
  properly : AreProper script (resting S) d.moves → Proceeding script S t d
  steps : (old : ThreadRow) (i : Instr) → thread_of S t ≡ Some old → old.stage ≡ Live → is_returning old.part ≡ false
      → instruction script old ≡ Some i → d ≡ step_of script S t old i old.part → Proceeding script S t d
  returns : (old : ThreadRow) (i : Instr) → thread_of S t ≡ Some old → is_returning old.part ≡ true
      → instruction script old ≡ Some i → d ≡ return_of S t old i → Proceeding script S t d

module _ (script : Script) (S : State) (t : ObjNo) (shaped : IsShaped script) (rows : AreRows script S) where
  abbrev Proceeds : Decision → Type 0
  Proceeds d = Proceeding script S t d

  module _ (may : may_act script S t ≡ true) (row : ThreadRow) (here : thread_of S t ≡ Some row) where
    -- at its list's end, and before
    proceeds-end : (protected : Bool) → Proceeds (decision_of_task script S t row (end_task protected))
    proceeds-end true = properly (proper-flush script S t)
    proceeds-end false = properly (proper-doom script S t (killed (pos 0)))

    proceeds-own : (protected : Bool) (at : Option Instr) → row.stage ≡ Live → is_returning row.part ≡ false
        → instruction script row ≡ at → Proceeds (decision_of_task script S t row (step_or_end protected at))
    proceeds-own protected None live going at = proceeds-end protected
    proceeds-own protected (Some i) live going at = steps row i here live going at refl

    proceeds-work : (work : List Holding) → held_servers S t ≡ work → row.stage ≡ Live → is_returning row.part ≡ false
        → Proceeds (decision_of_task script S t row
        (work_or work (step_or_end (is_protected S.synchronization.nano t) (instruction script row))))
    proceeds-work [] e live going = proceeds-own (is_protected S.synchronization.nano t) (instruction script row) live going refl
    proceeds-work (what ∷ rest) e live going = properly
        (proper-give script S rows t row what (fits-work {script = script} {S = S} {t = t} {row = row} what rest
        (record { rows = rows; is = here; going = going }) e).1)

    -- the calls of a queue
    called : (declared : Bool) (dfc : ℕ) → Proceeds (decision_of_task script S t row (if declared then RunDfc dfc else Bury dfc))
    called true dfc = properly (proper-body script S t (body.Deferred dfc))
    called false dfc = properly (proper-bury script S dfc)

    proceeds-call : (call : Option ℕ) → Proceeds (decision_of_row script S t (Some row) (option_map call_task call))
    proceeds-call None = properly tt
    proceeds-call (Some dfc) = called (nat_lt dfc 64) dfc

    abbrev own_task : Task
    own_task = work_or (held_servers S t) (step_or_end (is_protected S.synchronization.nano t) (instruction script row))

    proceeds-live : (role : Role) (call : Option ℕ) → row.stage ≡ Live → is_returning row.part ≡ false
        → Proceeds (decision_of_row script S t (Some row) (live_task role call own_task))
    proceeds-live Supervisor call live going = proceeds-call call
    proceeds-live (Queue queue) call live going = proceeds-call call
    proceeds-live (Declared k) call live going = proceeds-work (held_servers S t) refl live going

    -- one that dies
    proceeds-dying : (has : List Holding) → holdings S t row ≡ has → row.stage ≡ Doomed → is_returning row.part ≡ false
        → Proceeds (decision_of_task script S t row (dying_task has))
    proceeds-dying [] e doomed going = properly (proper-clean script S t row)
    proceeds-dying (what ∷ rest) e doomed going = properly
        (proper-give script S rows t row what (fits-give_up {script = script} {S = S} {t = t} {row = row} what rest
        (record { rows = rows; is = here; doomed = doomed; waits = awake script S t row here may going; going = going })
        e).1)

    abbrev live_own : Option Task
    live_own = live_task row.role (next_call S.synchronization.deferred row.role) own_task

    proceeds-stage : (stage : Stage) → row.stage ≡ stage → is_returning row.part ≡ false
        → Proceeds (decision_of_row script S t (Some row) (by_stage stage (holdings S t row) live_own))
    proceeds-stage Live live going = proceeds-live row.role (next_call S.synchronization.deferred row.role) live going
    proceeds-stage Doomed at going = proceeds-dying (holdings S t row) refl at going
    proceeds-stage Cleaned at going = properly tt
    proceeds-stage Buried at going = properly tt

    proceeds-row : (back : Bool) (at : Option Instr) (owed : List Owed) → is_returning row.part ≡ back
        → instruction script row ≡ at
        → Proceeds (decision_of_row script S t (Some row)
        (return_or back at (pay_or (first_of owed) (by_stage row.stage (holdings S t row) live_own))))
    proceeds-row true (Some i) owed back at = returns row i here back at refl
    proceeds-row true None owed back at =
        let there = some-inside (instructions_of script row.role) row.next_instruction ((rows.references.threads.rows t.0 row here).returns back) in
        let gone = ap is_some at in absurd (cc)
    proceeds-row false at (what ∷ rest) going e = properly (proper-pay script S what)
    proceeds-row false at [] going e = proceeds-stage row.stage refl going

  proceeds-there : (row : Option ThreadRow) → may_act script S t ≡ true → thread_of S t ≡ row
      → Proceeds (decision_of_row script S t row (task_of_row script S t row))
  proceeds-there None may is = properly tt
  proceeds-there (Some row) may is = proceeds-row may row is (is_returning row.part) (instruction script row) (owed_of S t) refl refl

  proceeds-where : (able : Bool) → may_act script S t ≡ able → Proceeds (decision_where script able S t (task_of_row script S t (thread_of S t)))
  proceeds-where false may = properly tt
  proceeds-where true may = proceeds-there (thread_of S t) may refl

  pub proceeding : Proceeds (decision_of script S t)
  proceeding = proceeds-where (may_act script S t) refl

-- the moves of an action in this state are proper, whoever acts
pub record IsProperly (script : Script) (S : State) : Type 0 where
  pub acts : (t : ObjNo) → AreProper script (stepping S t) (decision_of script S t).moves
  pub immediate : AreProper script (resting S) (decision_by script supervisor S (immediate_plan script S (next_immediate S.synchronization.deferred))).moves

-- what is plain is of any kind
pub fits-any : {k : Kinds} {script : Script} {S : State} {t : ObjNo} {d : Decision} → FitsAction plain script S t d → FitsAction k script S t d
fits-any fits = record {
  goes = fits.goes;
  regular = record {
    answers = fits.regular.answers;
    dooms = fits.regular.dooms;
    calm = λ _. fits.regular.calm refl;
    making = fits.regular.making;
    sends = λ _. fits.regular.sends refl;
    goes = λ _. fits.regular.goes refl;
    last = fits.regular.last;
    cleans = fits.regular.cleans;
    known = fits.regular.known;
    uses = λ u _. fits.regular.uses u (inr (inl refl));
    loses = fits.regular.loses;
    finds = fits.regular.finds;
    comes = fits.regular.comes;
    returns = fits.regular.returns;
  };
}
