-- The moves of each action are proper, where each step that a live thread is at is one of its instruction.
use Rattle.std.proofs.Common.{Bool, None, Option, Some, ap, arith, false, refl, subst, sym, true, ◌∙◌, ◌≡◌}
use Rattle.sym_base.specs.declared.number.ObjNo.{ObjNo}
use Rattle.sym_base.specs.declared.word.Word.{Word}
use Rattle.sym_base.specs.declared.word.Word.TheVariants as word
use Rattle.script_types.specs.Shape.{IsShaped}
use Rattle.script_types.specs.declared.instruction.Instr.{Instr}
use Rattle.script_types.specs.declared.instruction.Instr.TheVariants as instr
use Rattle.script_types.specs.declared.script.Script.{Script}
use Rattle.entry_log.specs.declared.step.Part.{Part}
use Rattle.entry_log.specs.declared.step.Part.TheVariants as part
use Rattle.state_rows.specs.Deferred.{next_immediate}
use Rattle.state_rows.specs.declared.deferred.Item.{Item}
use Rattle.state_rows.specs.declared.deferred.Item.TheVariants as item
use Rattle.state_rows.specs.declared.thread.Stage.TheVariants.{Live}
use Rattle.state_rows.specs.declared.thread.ThreadRow.{ThreadRow}
use Rattle.machine.specs.Bodies.{decision_by}
use Rattle.machine.specs.Find.{is_open, miss, return_to}
use Rattle.machine.specs.Interrupts.{immediate_plan, supervisor}
use Rattle.machine.specs.Out.{is_returning}
use Rattle.machine.specs.Rows.{object_of, thread_of}
use Rattle.machine.specs.Reaping.{give_up}
use Rattle.machine.specs.Steps.{decision_of, pay, return_of, step_of}
use Rattle.machine.specs.Task.{instruction}
use Rattle.machine.specs.ThreadCalls.{is_live}
use Rattle.machine.specs.WellFormed.{AreRows}
use Rattle.machine.specs.declared.decision.Decision.{Decision}
use Rattle.machine.specs.declared.plan.Body.TheVariants.{Immediate}
use Rattle.machine.specs.declared.state.State.{State}
use Rattle.machine_laws.proofs.Fitting.Actions.{FitsAction, each-action}
use Rattle.machine_laws.proofs.Fitting.Regular.{kind_of, plain}
use Rattle.machine_safe.proofs.Serving.QueuedCalls.{AreCalled, immediate-declared}
use Rattle.machine_safe.proofs.Serving.Course.{Course, IsMet, answers, asks, comes, goes, has_step, idles, kind_used, opening, opens, stays, strays}
use Rattle.machine_safe.proofs.Serving.Courses.{course}
use Rattle.machine_safe.proofs.Serving.LaterSteps.{Facts}
use Rattle.machine_safe.proofs.Serving.NextActions.{IsProperly, Proceeding, fits-any, proceeding, properly, returns, steps}
use Rattle.machine_safe.proofs.Serving.Proper.{AreProper, IsOther, is_kind, proper-any, resting, stepping}
use Rattle.machine.specs.WellFormed.{IsAlive}
use Rattle.machine_laws.proofs.Fitting.LiveObjects.{use_is_alive}
use Rattle.move_laws.proofs.Numbers.Registers.{has_ranges}
use Rattle.script_types.proofs.LimitLaws.{in_form}
use Rattle.script_types.specs.Forms.{instr_form}
use Rattle.script_types.specs.Operands.{is_opened}
use Rattle.state_rows.specs.declared.object.ObjectRow.{ObjectRow}
use Rattle.std.proofs.lemmas.Bool.{eqb-true}
use Rattle.sym_base.specs.KindNumber.{kind_number}
use Rattle.sym_base.specs.declared.kind.Kind.{Kind}
use Rattle.sym_base.specs.declared.kind.Kind.TheVariants as kind
use Rattle.machine_safe.proofs.Serving.ProperLists.{proper-body, proper-pay}
use Rattle.machine_safe.proofs.Serving.ProperGiving.{proper-give}
use Rattle.machine_safe.proofs.Serving.StepFacts.{Nowhere, straight-of, straying}
use Rattle.move_laws.proofs.Lists.Cases.{if_cases}

-- what an `open` gives a handle of is no server
opened-kind : (script : Script) (old : ThreadRow) (i : Instr) (p : Option Part) (k : Kind) → IsShaped script
    → instruction script old ≡ Some i → opening i p ≡ Some k
    → (asks i p ≡ true) × (kind_used i p ≡ Some k) × (is_opened k ≡ true)
opened-kind script old (instr.Open j name x) (Some part.Do) k shaped at is =
    let same : j ≡ k = cc in (
      refl,
      ap Some same,
      subst (λ (z : Kind). is_opened z ≡ true) same
          (in_form (instr_form (instr.Open j name x)) (has_ranges script old (instr.Open j name x) shaped at)).0.0,
    )
opened-kind script old i p k shaped at is = absurd (cc)

unserved : (k : Kind) (row : ObjectRow) → is_opened k ≡ true → is_kind k row.kind ≡ true → is_kind kind.Server row.kind ≡ false
unserved k row opened is = by (is_kind kind.Server row.kind) refl
  where
    other : (j : Kind) → is_opened j ≡ true → kind_number j ≡ kind_number kind.Server → ⊥
    other kind.Server e same = absurd (cc)
    other kind.Session e same = absurd (cc)
    other j e same = omega arith

    by : (b : Bool) → is_kind kind.Server row.kind ≡ b → is_kind kind.Server row.kind ≡ false
    by false e = e
    by true e =
        let one = eqb-true (kind_number row.kind) (kind_number k) is in
        let server = eqb-true (kind_number row.kind) (kind_number kind.Server) e in
        absurd (other k opened (sym one ∙ server))

opened-other : (script : Script) (S : State) (t : ObjNo) (old : ThreadRow) (i : Instr) (p : Option Part) (k : Kind)
    (o : ObjNo)
    → IsShaped script → AreRows script S → thread_of S t ≡ Some old → instruction script old ≡ Some i
    → opening i p ≡ Some k → old.uses ≡ Some o → IsMet S t old i p → IsOther S o
opened-other script S t old i p k o shaped rows here at what uses met = by (object_of S o) refl (use_is_alive S t old o rows.lives here uses)
  where
    of : (asks i p ≡ true) × (kind_used i p ≡ Some k) × (is_opened k ≡ true)
    of = opened-kind script old i p k shaped at what

    by : (x : Option ObjectRow) → object_of S o ≡ x → IsAlive x → IsOther S o
    by None is alive = absurd alive
    by (Some row) is alive = (row, is, unserved k row of.2 (((met of.0).used k o of.1 uses).kind row is))

-- what a step comes to
module _ (script : Script) (S : State) (t : ObjNo) (old : ThreadRow) (i : Instr) (p : Option Part) (d : Decision)
    (shaped : IsShaped script) (rows : AreRows script S) (here : thread_of S t ≡ Some old)
    (at : instruction script old ≡ Some i) (met : IsMet S t old i p) where
  course-proper : ((q : Part) → p ≡ Some q → has_step i q ≡ true) → Course script S t old i p d → AreProper script (stepping S t) d.moves
  course-proper straight (strays q e none) = let there = straight q e in absurd (cc)
  course-proper straight (answers code e told proper) = proper
  course-proper straight (opens k o code what uses e told proper) = proper (opened-other script S t old i p k o shaped rows here at what uses met)
  course-proper straight (idles lacks e) = subst (λ (x : Decision). AreProper script (stepping S t) x.moves) (sym e) tt
  course-proper straight (stays none told proper) = proper-any script t S None d.moves proper
  course-proper straight (comes told proper back) = proper
  course-proper straight (goes to there silent told proper on) = proper

module _ (script : Script) (S : State) (shaped : IsShaped script) (rows : AreRows script S)
    (straight : Facts script straying Nowhere S) (called : AreCalled script S.synchronization.deferred)
    (met : (t : ObjNo) (old : ThreadRow) (i : Instr) → thread_of S t ≡ Some old → old.stage ≡ Live → instruction script old
    ≡ Some i → IsMet S t old i old.part) where
  module _ (t : ObjNo) where
    abbrev Proper : Decision → Type 0
    Proper d = AreProper script (stepping S t) d.moves

    missed : (w : Word) (o : ObjNo) (live : Bool) → Proper (miss t w o live)
    missed w o true = (tt, (tt, tt))
    missed w o false = (tt, tt)

    returned : (old : ThreadRow) (w : Word) (to : Part) → Proper (return_to S t old w to)
    returned old w to = if_cases Proper (is_open old.sought_place (object_of S old.sought)) _ _ (λ _. (tt, tt)) (λ _. missed w old.sought (is_live old.stage))

    return-proper : (old : ThreadRow) (i : Instr) → Proper (return_of S t old i)
    return-proper old (instr.Open kind name x) = returned old word.Open part.Do
    return-proper old (instr.Connect name slots x) = returned old word.Connect part.Make
    return-proper old i = tt

    step-proper : (old : ThreadRow) (i : Instr) → thread_of S t ≡ Some old → old.stage ≡ Live
        → is_returning old.part ≡ false → instruction script old ≡ Some i
        → FitsAction (kind_of i old.part) script S t (step_of script S t old i old.part)
        → Proper (step_of script S t old i old.part)
    step-proper old i is live going at fits = course-proper script S t old i old.part
        (step_of script S t old i old.part) shaped rows is at (met t old i is live at)
        (straight-of script S straight t old i is live at)
        (course script S t old is rows i old.part live at refl fits going)

    plain-proper : (d : Decision) → FitsAction plain script S t d → Proceeding script S t d → Proper d
    plain-proper d fits (properly proper) = proper-any script t S None d.moves proper
    plain-proper d fits (steps old i is live going at e) = subst Proper (sym e)
        (step-proper old i is live going at (subst (FitsAction (kind_of i old.part) script S t) e (fits-any fits)))
    plain-proper d fits (returns old i is back at e) = subst Proper (sym e) (return-proper old i)

    action-proper : Proper (decision_of script S t)
    action-proper = each-action script S t (λ (d : Decision). Proceeding script S t d → Proper d) (record {
      plainly = λ d why fits proceeds. plain-proper d fits proceeds;
      steps = λ old i is live going at fits proceeds. step-proper old i is live going at fits;
      returns = λ old i is back at fits proceeds. return-proper old i;
      gives = λ old what given fits proceeds. proper-any script t S None (give_up S t old what).moves (proper-give script S rows t old what given);
      pays = λ what rest owes proceeds. proper-any script t S None (pay what).moves (proper-pay script S what);
    }) shaped rows (proceeding script S t shaped rows)

  item-proper : (found : Option Item) → next_immediate S.synchronization.deferred ≡ found
      → AreProper script (resting S) (decision_by script supervisor S (immediate_plan script S found)).moves
  item-proper None is = tt
  item-proper (Some (item.Idfc call)) is = proper-body script S supervisor (Immediate call)
  item-proper (Some (item.Move dfc)) is = (tt, ((λ few. immediate-declared script S.synchronization.deferred (item.Move dfc) called is), tt))

  pub are-properly : IsProperly script S
  are-properly = record { acts = action-proper; immediate = item-proper (next_immediate S.synchronization.deferred) refl }
