-- What a dying thread does next, and that its moves go through.
use Rattle.std.proofs.Common.{◌≡◌, inr, ◌∙◌, ℕ, true, false, List, [], ◌∷◌, Option, Some, None, ap, arith, refl, sym}
use Rattle.std.specs.Prelude.{◌||◌, Bool, IsTrue}
use Rattle.sym_base.specs.declared.number.ObjNo.{ObjNo}
use Rattle.sym_base.specs.declared.kind.Exit.{Exit}
use Rattle.script_types.specs.declared.script.Script.{Script}
use Rattle.script_types.specs.declared.instruction.Instr.{Instr}
use Rattle.script_types.specs.Shape.{IsShaped}
use Rattle.state_rows.specs.Nano.{is_protected}
use Rattle.state_rows.specs.declared.duty.Owed.{Owed}
use Rattle.state_rows.specs.declared.thread.Stage.{Stage}
use Rattle.state_rows.specs.declared.thread.ThreadRow.{ThreadRow}
use Rattle.machine.specs.declared.holding.Holding.{Holding}
use Rattle.machine.specs.declared.state.State.{State}
use Rattle.machine.specs.declared.task.Task.{Task}
use Rattle.machine.specs.declared.task.Task.TheVariants.{Bury, Clean, Pay}
use Rattle.machine.specs.Dooms.{doom}
use Rattle.machine.specs.History.{keeping}
use Rattle.machine.specs.Holdings.{holdings, held_servers}
use Rattle.machine.specs.Reaping.{bury}
use Rattle.machine.specs.Rows.{first_owed, thread_of}
use Rattle.machine.specs.Steps.{decision_of, decision_of_row, decision_where, pay}
use Rattle.machine.specs.Task.{by_stage, dying_task, instruction, is_able, pay_or, return_or, task_of, task_of_row, live_task, next_call, step_or_end, work_or}
use Rattle.machine.specs.Out.{is_out, is_returning}
use Rattle.machine.specs.WellFormed.{AreRows}
use Rattle.machine_laws.proofs.Fitting.Bodies.{Goes}
use Rattle.machine_laws.proofs.Fitting.Dooms.{after-doom, may_die, unprotected_unheld}
use Rattle.machine_laws.proofs.Reached.AfterHistory.{rows-keeping}
use Rattle.move_laws.proofs.Lists.Totals.{inside}
use Rattle.move_laws.proofs.Numbers.FewEffects.{tell_few}
use Rattle.next_actions.specs.NextActions.{dying_at, has_any, holdings_at}
use Rattle.kernel_tables.specs.Performed.{ActionGoes}
use Rattle.kernel_tables.proofs.GoingActions.{each_choice_goes}
use Rattle.death.specs.Dying.{IsReapable, MayBury, MayEnd}

-- what an able thread decides is what its task does
task_decides : (script : Script) (S : State) (t : ObjNo) (what : Option Task) → IsTrue (is_able script S t)
    → task_of script S t ≡ what → decision_of script S t ≡ decision_of_row script S t (thread_of S t) what
task_decides script S t what able is =
    ap (λ (able : Bool). decision_where script (able || is_out S t) S t (task_of script S t)) able
    ∙ ap (λ (what : Option Task). decision_where script true S t what) is

-- whoever isn't at a return does something else
apart_other : (returning : Bool) (instr : Option Instr) (other : Option Task) → return_or returning instr None ≡ None → return_or returning instr other ≡ other
apart_other false instr other apart = refl
apart_other true None other apart = refl
apart_other true (Some instr) other apart = absurd (cc)

-- the task of a thread that may be reaped
reap_task : (script : Script) (S : State) (t : ObjNo) → IsReapable script S t → task_of script S t ≡ pay_or (first_owed S t) (dying_at S t (thread_of S t))
reap_task script S t h =
    let row = h.row in
    let own = live_task row.role (next_call S.synchronization.deferred row.role)
    (work_or (held_servers S t) (step_or_end (is_protected S.synchronization.nano t) (instruction script row))) in
    ap (task_of_row script S t) h.is
    ∙ (apart_other (is_returning row.part) (instruction script row) _ h.apart
    ∙ (ap (λ (stage : Stage). pay_or (first_owed S t) (by_stage stage (holdings S t row) own)) h.doomed
    ∙ ap (λ (x : Option ThreadRow). pay_or (first_owed S t) (dying_at S t x)) (sym h.is)))

-- it pays the oldest of what it owes
pub pays : (script : Script) (S : State) (t : ObjNo) (what : Owed) → IsReapable script S t → first_owed S t ≡ Some what → pay what ≡ decision_of script S t
pays script S t what h owes =
    sym (task_decides script S t (Some (Pay what)) h.able
    (reap_task script S t h ∙ ap (λ (owed : Option Owed). pay_or owed (dying_at S t (thread_of S t))) owes)
    ∙ rw h.is refl)

-- and where it owes nothing, gives up the first of what it has, or is cleaned
pub reaps : (script : Script) (S : State) (t : ObjNo) → IsReapable script S t → first_owed S t ≡ None
    → decision_of_row script S t (thread_of S t) (dying_at S t (thread_of S t)) ≡ decision_of script S t
reaps script S t h paid =
    sym (task_decides script S t (dying_at S t (thread_of S t)) h.able
    (reap_task script S t h ∙ ap (λ (owed : Option Owed). pay_or owed (dying_at S t (thread_of S t))) paid))

-- whoever has nothing is cleaned
none_cleans : (has : List Holding) → has_any has ≡ false → dying_task has ≡ Clean
none_cleans [] none = refl
none_cleans (what ∷ rest) none = absurd (cc)

pub cleans : (script : Script) (S : State) (t : ObjNo) → IsReapable script S t → first_owed S t ≡ None
    → has_any (holdings_at S t (thread_of S t)) ≡ false → task_of script S t ≡ Some Clean
cleans script S t h paid none =
    reap_task script S t h
    ∙ ap (λ (owed : Option Owed). pay_or owed (dying_at S t (thread_of S t))) paid
    ∙ ap (λ (what : Task). Some what) (none_cleans (holdings_at S t (thread_of S t)) none)

-- whoever buries decides the burial
burial_decided : (script : Script) (S : State) (t : ObjNo) (dfc : ℕ) (row : Option ThreadRow)
    → task_of_row script S t row ≡ Some (Bury dfc)
    → decision_of_row script S t row (Some (Bury dfc)) ≡ bury script S dfc
burial_decided script S t dfc None is = absurd (cc)
burial_decided script S t dfc (Some row) is = refl

pub buries : (script : Script) (S : State) (t : ObjNo) (dfc : ℕ) → MayBury script S t dfc → bury script S dfc ≡ decision_of script S t
buries script S t dfc h = sym (task_decides script S t (Some (Bury dfc)) h.able h.next ∙ burial_decided script S t dfc (thread_of S t) h.next)

-- the moves of a doom go through
pub doom_goes : (script : Script) (S : State) (t : ObjNo) (exit : Exit) → IsShaped script → AreRows script S → MayEnd S t → ActionGoes script t (doom t exit) S
doom_goes script S t exit shaped rows h =
    each_choice_goes script S t (doom t exit) shaped
    (λ keep. record { rows = rows-keeping script S keep rows; inside = inside S.references.threads t.0 h.row h.is })
    (inr refl) (λ keep. goes (keeping keep S) (rows-keeping script S keep rows) h.is h.free) (omega arith) (omega arith)
  where
    goes : (T : State) → AreRows script T → thread_of T t ≡ Some h.row → is_protected T.synchronization.nano t ≡ false → Goes script t T (doom t exit)
    goes T here is free =
        let after = after-doom script T t t exit (may_die script T t h.row here is h.live (unprotected_unheld T.synchronization.nano t free)) in
        record {
          each = after.each;
          few = let a = here.references.duties.few t.0 in let none = after.light in omega arith;
          told = let few = after.told in let most = tell_few t (doom t exit) T in omega arith;
        }
