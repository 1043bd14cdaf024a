-- Who may act has a number that fits, and which step an action is doesn't depend on what it keeps.
use Rattle.entry_log.specs.IsEntry.{IsActor}
use Rattle.entry_log.specs.declared.entry.Actor.{Actor}
use Rattle.entry_log.specs.declared.entry.Actor.TheVariants.{Thread, Irq, Idfc, Tick, Idle}
use Rattle.machine.specs.declared.state.State.{State}
use Rattle.machine.specs.declared.task.Task.{Task}
use Rattle.machine.specs.declared.task.Task.TheVariants as task
use Rattle.machine.specs.Bodies.{decision_by}
use Rattle.machine.specs.History.{CanAct, keeping, transition}
use Rattle.machine.specs.Interrupts.{immediate, immediate_plan, interrupt, supervisor}
use Rattle.machine.specs.Out.{is_out, is_returning, part_of}
use Rattle.machine.specs.Rows.{thread_of}
use Rattle.machine.specs.Steps.{decision_of_row, decision_of_task, decision_where}
use Rattle.machine.specs.Task.{is_able, is_ready, is_stopped, is_unspent_row, is_waiting, may_act, task_of}
use Rattle.machine.specs.Transition.{act}
use Rattle.machine.specs.WellFormed.{AreRows}
use Rattle.move_laws.proofs.Lists.Totals.{inside}
use Rattle.script_types.proofs.ShapeLaws.{formed_is_shaped}
use Rattle.script_types.specs.Source.{IsWellFormed}
use Rattle.script_types.specs.declared.declaration.IrqBody.{IrqBody}
use Rattle.script_types.specs.declared.operand.BodyKind.TheVariants as body
use Rattle.script_types.specs.declared.script.Script.{Script}
use Rattle.script_types.specs.Ranges.{is_body}
use Rattle.script_words.proofs.Steps.{both, by_test}
use Rattle.state_rows.specs.Deferred.{next_immediate}
use Rattle.state_rows.specs.declared.deferred.Item.{Item}
use Rattle.state_rows.specs.declared.deferred.Item.TheVariants as item
use Rattle.state_rows.specs.declared.thread.ThreadRow.{ThreadRow}
use Rattle.std.proofs.Common.{◌≡◌, ℕ, ◌<◌, ◌≤◌, ◌^◌, Bool, true, false, not, ◌&&◌, ◌||◌, List, [], ◌∷◌, Option, Some, None, refl, ap, ◌∙◌, arith}
use Rattle.std.proofs.lemmas.Bool.{eqb-true, leb-true}
use Rattle.std.specs.List.{list_all, list_any}
use Rattle.std.specs.Prelude.{◌==◌, is_some, nat_le}
use Rattle.sym_base.specs.declared.number.ObjNo.{ObjNo}

-- the step of what a thread does
task-step : (script : Script) (S : State) (t : ObjNo) (keep : Bool) (row : ThreadRow) (what : Task)
    → (decision_of_task script (keeping keep S) t row what).step ≡ (decision_of_task script S t row what).step
task-step script S t keep row (task.RunDfc dfc) = refl
task-step script S t keep row _ = refl

row-step : (script : Script) (S : State) (t : ObjNo) (keep : Bool) (row : Option ThreadRow) (what : Option Task)
    → (decision_of_row script (keeping keep S) t row what).step ≡ (decision_of_row script S t row what).step
row-step script S t keep (Some row) (Some what) = task-step script S t keep row what
row-step script S t keep _ _ = refl

where-step : (script : Script) (S : State) (t : ObjNo) (keep able : Bool) (what : Option Task)
    → (decision_where script able (keeping keep S) t what).step ≡ (decision_where script able S t what).step
where-step script S t keep false what = refl
where-step script S t keep true what = row-step script S t keep (thread_of S t) what

act-step : (script : Script) (S : State) (t : ObjNo) (keep : Bool) → (act script (keeping keep S) t).outcome.step ≡ (act script S t).outcome.step
unfolding act
act-step script S t keep = where-step script S t keep (may_act script S t) (task_of script S t)

plan-step : (script : Script) (S : State) (keep : Bool) (found : Option Item)
    → (decision_by script supervisor (keeping keep S) (immediate_plan script (keeping keep S) found)).step
    ≡ (decision_by script supervisor S (immediate_plan script S found)).step
plan-step script S keep None = refl
plan-step script S keep (Some (item.Idfc call)) = refl
plan-step script S keep (Some (item.Move dfc)) = refl

immediate-step : (script : Script) (S : State) (keep : Bool) → (immediate script (keeping keep S)).outcome.step ≡ (immediate script S).outcome.step
unfolding immediate
immediate-step script S keep = plan-step script S keep (next_immediate S.synchronization.deferred)

interrupt-step : (script : Script) (S : State) (keep : Bool) (k : ℕ) → (interrupt script (keeping keep S) k).outcome.step ≡ (interrupt script S k).outcome.step
unfolding interrupt
interrupt-step script S keep k = refl

pub same-step : (script : Script) (S : State) (keep : Bool) (actor : Actor)
    → (transition script (keeping keep S) actor).outcome.step ≡ (transition script S actor).outcome.step
same-step script S keep (Thread t) = act-step script S t keep
same-step script S keep (Irq k) = interrupt-step script S keep k
same-step script S keep Idfc = immediate-step script S keep
same-step script S keep Tick = refl
same-step script S keep Idle = refl

-- a thread that may act has a row
and_none : (a : Bool) → (a && false) ≡ false
and_none true = refl
and_none false = refl

or_of : (a b : Bool) → (a || b) ≡ true → a ≡ false → b ≡ true
or_of true b h none = absurd (cc)
or_of false b h none = h

none-able : (script : Script) (S : State) (t : ObjNo) → thread_of S t ≡ None → is_able script S t ≡ false
none-able script S t none =
    let ready : is_ready script S t ≡ false = ap
    (λ (row : Option ThreadRow). is_unspent_row row && not (is_waiting S t) && not (is_stopped S t) && is_some (task_of script S t)) none in
    by_test {P = is_able script S t ≡ false} (is_able script S t)
    (λ is. let both_are = both (is_ready script S t) _ is in let bad : is_ready script S t ≡ true = both_are.0 in absurd (cc))
    (λ isnt. isnt)

none-out : (S : State) (t : ObjNo) → thread_of S t ≡ None → is_out S t ≡ false
none-out S t none = ap (λ (row : Option ThreadRow). S.mode.shared && is_returning (part_of row)) none ∙ and_none S.mode.shared

none-may : (script : Script) (S : State) (t : ObjNo) → thread_of S t ≡ None → may_act script S t ≡ false
none-may script S t none = let able = none-able script S t none in let out = none-out S t none in ap (λ (a : Bool). a || is_out S t) able ∙ out

-- so its number is among those of the threads
known-thread : (script : Script) (S : State) (t : ObjNo) → AreRows script S → may_act script S t ≡ true → t.0 < 2 ^ 16
known-thread script S t rows may = by (thread_of S t) refl
  where
    by : (row : Option ThreadRow) → thread_of S t ≡ row → t.0 < 2 ^ 16
    by None none = let no = none-may script S t none in absurd (cc)
    by (Some row) is =
        let within = inside S.references.threads t.0 row is in
        let few = rows.references.sized.threads_few in
        omega arith

-- and a declared interrupt's number is small
in_range : (irqs : List IrqBody) (k : ℕ)
    → list_all (λ (i : IrqBody). nat_le i.number 31 && is_body (Some body.Interrupt) i.body) irqs ≡ true
    → list_any (λ (i : IrqBody). i.number == k) irqs ≡ true → k ≤ 31
in_range [] k all found = absurd (cc)
in_range (irq ∷ irqs) k all found =
    let h = both (nat_le irq.number 31 && is_body (Some body.Interrupt) irq.body) _ all in
    by_test {P = k ≤ 31} (irq.number == k)
    (λ is. let same = eqb-true irq.number k is in let low = leb-true irq.number 31 (both (nat_le irq.number 31) _ h.0).0 in omega arith)
    (λ isnt. in_range irqs k h.1 (or_of (irq.number == k) _ found isnt))

known-irq : (script : Script) (k : ℕ) → IsWellFormed script → list_any (λ (i : IrqBody). i.number == k) script.irqs ≡ true → k < 2 ^ 8
known-irq script k valid found = let low = in_range script.irqs k (formed_is_shaped script valid).numbers.irqs found in omega arith

pub known_actor : (script : Script) (S : State) (actor : Actor) → IsWellFormed script → AreRows script S → CanAct script S actor → IsActor actor
unfolding IsActor
known_actor script S (Thread t) valid rows can = known-thread script S t rows can
known_actor script S (Irq k) valid rows can = known-irq script k valid can
known_actor script S Idfc valid rows can = tt
known_actor script S Tick valid rows can = tt
known_actor script S Idle valid rows can = tt
