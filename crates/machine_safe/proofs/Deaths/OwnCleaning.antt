-- A thread comes to be cleaned only by its own cleaning.
use Rattle.std.proofs.Common.{◌≡◌, inl, inr, ℕ, ◌<◌, List, [], ◌∷◌, length, arith, refl, sym, ap, subst, ◌∙◌, Bool, true, false}
use Rattle.std.specs.Prelude.{◌==◌}
use Rattle.std.proofs.lemmas.Bool.{cases_eq, cases_lt}
use Rattle.sym_base.specs.declared.number.ObjNo.{ObjNo}
use Rattle.script_types.specs.declared.script.Script.{Script}
use Rattle.script_types.specs.Shape.{IsShaped}
use Rattle.entry_log.specs.declared.entry.Actor.{Actor}
use Rattle.entry_log.specs.declared.entry.Actor.TheVariants.{Thread, Irq, Idfc, Tick, Idle}
use Rattle.machine.specs.History.{next}
use Rattle.state_rows.specs.Deferred.{next_immediate}
use Rattle.state_rows.specs.declared.duty.Owed.{Owed}
use Rattle.state_rows.specs.declared.duty.Owed.TheVariants.{Close, Sweep}
use Rattle.machine.specs.declared.death_move.DeathMove.TheVariants.{Note, Doom, Clean, Bury}
use Rattle.machine.specs.declared.decision.Decision.{Decision}
use Rattle.machine.specs.declared.moves.Move.{Move}
use Rattle.machine.specs.declared.moves.Move.TheVariants.{Death, Pay}
use Rattle.machine.specs.declared.plan.Body.TheVariants.{Interrupt}
use Rattle.machine.specs.declared.state.State.{State}
use Rattle.machine.specs.Bodies.{decision_by, run_body}
use Rattle.machine.specs.DeathMoves.{death_row}
use Rattle.machine.specs.Fits.{EachFits, Sane}
use Rattle.machine.specs.Holdings.{stage_left}
use Rattle.machine.specs.Interrupts.{immediate, immediate_plan, interrupt, supervisor}
use Rattle.machine.specs.Moves.{moved, perform}
use Rattle.machine.specs.References.{stage_holds, total}
use Rattle.machine.specs.Kept.{dies}
use Rattle.machine.specs.Rows.{owed_of, thread_of}
use Rattle.machine.specs.Steps.{decision_of}
use Rattle.machine.specs.Transition.{act}
use Rattle.machine.specs.WellFormed.{AreRows}
use Rattle.machine_laws.proofs.Fitting.Actions.{of_action, regular-action}
use Rattle.move_laws.proofs.References.Same.{eqb_apart, if_not, if_zero, same_object}
use Rattle.move_laws.proofs.MoveLaws.Pays.{sweep-unheld}
use Rattle.machine_safe.proofs.Deaths.Moves.{keeps-closed, keeps-move}
use Rattle.machine_safe.proofs.Deaths.Rows.{bit-less, bit-swept, held-is, held-one, keeps-with_row, left-held, row_bit}
use Rattle.machine_laws.proofs.Fitting.Interrupts.{light-immediate, light-interrupt}
use Rattle.machine_laws.proofs.Fitting.Regular.{cleaning_bit}
use Rattle.machine.specs.EntryWords.{is_clean}

-- Moves that clean a thread are an action of it, and a cleaning is among them.
record Dropped (t u : ObjNo) (ms : List Move) : Type 0 where
  pub own : u ≡ t
  pub cleans : 0 < total cleaning_bit ms

dropped : (script : Script) (S : State) (t : ObjNo) (ms : List Move) (u : ObjNo) → EachFits script t ms S
    → row_bit stage_left (thread_of S u) ≡ 1 → row_bit stage_left (thread_of (perform t ms S) u) ≡ 0 → Dropped t u ms
dropped script S t [] u fits was now = absurd (omega arith)
dropped script S t (Death (Clean w) ∷ ms) u fits was now = elim (cases_eq w.0 u.0) as (λ _. Dropped t u (Death (Clean w) ∷ ms)) [
  | inl at ↦ record { own = sym (same_object w u at) ∙ fits.0.2; cleans = omega arith }
  | inr apart ↦
      let at_stage = fits.0.0 in
      let less = bit-less stage_left S.references.threads w (death_row (Clean w)) at_stage.row 1 at_stage.is (sym (ap stage_left at_stage.at)) u in
      let none = if_not (w.0 == u.0) 1 (eqb_apart w.0 u.0 apart) in
      let rest = dropped script (moved t (Death (Clean w)) S) t ms u fits.1 (omega arith) now in
      record { own = rest.own; cleans = omega arith }
]
dropped script S t (Death (Doom w exit) ∷ ms) u fits was now =
    let at_stage = fits.0.0 in
    let less = bit-less stage_left S.references.threads w (death_row (Doom w exit)) at_stage.row 0 at_stage.is (sym (ap stage_left at_stage.at)) u in
    let none = if_zero (w.0 == u.0) 0 refl in
    let rest = dropped script (moved t (Death (Doom w exit)) S) t ms u fits.1 (omega arith) now in
    record { own = rest.own; cleans = let some = rest.cleans in omega arith }
dropped script S t (Death (Bury w) ∷ ms) u fits was now =
    let at_stage = fits.0.0 in
    let less = bit-less stage_left S.references.threads w (death_row (Bury w)) at_stage.row 0 at_stage.is (sym (ap stage_left at_stage.at)) u in
    let none = if_zero (w.0 == u.0) 0 refl in
    let rest = dropped script (moved t (Death (Bury w)) S) t ms u fits.1 (omega arith) now in
    record { own = rest.own; cleans = let some = rest.cleans in omega arith }
dropped script S t (Death (Note w exit) ∷ ms) u fits was now =
    let keeps = keeps-with_row S.references.threads w (death_row (Note w exit)) (λ row. refl) (λ row. refl) in
    let rest = dropped script (moved t (Death (Note w exit)) S) t ms u fits.1 (keeps.stages stage_left u.0 ∙ was) now in
    record { own = rest.own; cleans = let some = rest.cleans in omega arith }
dropped script S t (m ∷ ms) u fits was now =
    let keeps = keeps-move script S t m fits.0 refl in
    let rest = dropped script (moved t m S) t ms u fits.1 (keeps.stages stage_left u.0 ∙ was) now in
    record { own = rest.own; cleans = let some = rest.cleans in omega arith }

-- what cleans a thread is that thread's cleaning
record OwnCleaning (script : Script) (S : State) (t u : ObjNo) : Type 0 where
  pub own : u ≡ t
  pub step : is_clean (decision_of script S t).step ≡ true

-- a payment cleans nobody
paid-kept : (script : Script) (S : State) (t : ObjNo) (what : Owed) (rest : List Owed) → owed_of S t ≡ what ∷ rest
    → t.0 < length S.references.owed → AreRows script S → (u : ObjNo)
    → row_bit stage_left (thread_of (moved t (Pay what) S) u) ≡ row_bit stage_left (thread_of S u)
paid-kept script S t (Close h o) rest owes here rows u = (keeps-closed (dies S o) o S.references.threads).stages stage_left u.0
paid-kept script S t (Sweep o) rest owes here rows u =
    let unheld : row_bit stage_holds (thread_of S o) ≡ 0 = sym (held-is (thread_of S o)) ∙ sweep-unheld script S t o rest owes here rows in
    bit-swept stage_left S.references.threads o.0 u.0 (let le = left-held (thread_of S o) in omega arith)

paid-left : (script : Script) (S : State) (t : ObjNo) (what : Owed) (rest : List Owed) (u : ObjNo)
    → owed_of S t ≡ what ∷ rest → Sane script t S
    → row_bit stage_left (thread_of (moved t (Pay what) S) u) ≡ row_bit stage_left (thread_of S u)
paid-left script S t what rest u owes s =
    paid-kept script S t what rest owes (let a = s.inside in let b = s.rows.references.sized.duties in
    omega arith) s.rows u

drop-act : (script : Script) (S : State) (t u : ObjNo) → IsShaped script → AreRows script S
    → row_bit stage_left (thread_of S u) ≡ 1 → row_bit stage_left (thread_of (act script S t).state u) ≡ 0
    → OwnCleaning script S t u
unfolding act
drop-act script S t u shaped rows was now = by (is_clean d.step) refl
  where
    d : Decision
    d = decision_of script S t

    all : row_bit stage_left (thread_of (perform t d.moves S) u) ≡ 0 → Dropped t u d.moves
    all = of_action script S t (λ (ms : List Move). row_bit stage_left (thread_of (perform t ms S) u) ≡ 0 → Dropped t u ms) shaped rows
        (λ ms sane goes none. dropped script S t ms u goes.each was none)
        (λ what rest sane owes none. let same = paid-left script S t what rest u owes sane in absurd (omega arith))
        (λ none. absurd (omega arith))

    by : (b : Bool) → is_clean d.step ≡ b → OwnCleaning script S t u
    by true is = record { own = (all now).own; step = is }
    by false is = let none = (regular-action script S t shaped rows).1.cleans is in let some = (all now).cleans in absurd (omega arith)

-- moves that clean nobody leave each thread
kept-none : (script : Script) (S : State) (t : ObjNo) (ms : List Move) (u : ObjNo) → EachFits script t ms S
    → total cleaning_bit ms ≡ 0 → row_bit stage_left (thread_of S u) ≡ 1
    → row_bit stage_left (thread_of (perform t ms S) u) ≡ 1
kept-none script S t ms u fits none was =
    elim (cases_lt 0 (row_bit stage_left (thread_of (perform t ms S) u))) as
    (λ _. row_bit stage_left (thread_of (perform t ms S) u) ≡ 1) [
      | inl some ↦ let a = left-held (thread_of (perform t ms S) u) in let one = held-one (thread_of (perform t ms S) u) in omega arith
      | inr gone ↦ let h = dropped script S t ms u fits was (omega arith) in let cleans = h.cleans in absurd (omega arith)
    ]

kept-interrupt : (script : Script) (S : State) (k : ℕ) (u : ObjNo) → IsShaped script → AreRows script S
    → row_bit stage_left (thread_of S u) ≡ 1 → row_bit stage_left (thread_of (interrupt script S k).state u) ≡ 1
unfolding interrupt
kept-interrupt script S k u shaped rows was =
    let light = light-interrupt script S k shaped rows in
    kept-none script S supervisor (run_body script supervisor S (Interrupt k)).moves u light.each light.calm.cleans was

kept-immediate : (script : Script) (S : State) (u : ObjNo) → IsShaped script → AreRows script S
    → row_bit stage_left (thread_of S u) ≡ 1 → row_bit stage_left (thread_of (immediate script S).state u) ≡ 1
unfolding immediate
kept-immediate script S u shaped rows was =
    let found = next_immediate S.synchronization.deferred in
    let light = light-immediate script S found shaped rows refl in
    kept-none script S supervisor (decision_by script supervisor S (immediate_plan script S found)).moves u light.each light.calm.cleans was

-- a thread comes to be cleaned only by its own cleaning
pub drop-next : (script : Script) (S : State) (actor : Actor) (u : ObjNo) → IsShaped script → AreRows script S
    → row_bit stage_left (thread_of S u) ≡ 1 → row_bit stage_left (thread_of (next script S actor) u) ≡ 0
    → (actor ≡ Thread u) × (is_clean (decision_of script S u).step ≡ true)
drop-next script S (Thread t) u shaped rows was now =
    let h = drop-act script S t u shaped rows was now in
    (ap Thread (sym h.own), subst (λ (x : ObjNo). is_clean (decision_of script S x).step ≡ true) (sym h.own) h.step)
drop-next script S (Irq k) u shaped rows was now = let kept = kept-interrupt script S k u shaped rows was in absurd (omega arith)
drop-next script S Idfc u shaped rows was now = let kept = kept-immediate script S u shaped rows was in absurd (omega arith)
drop-next script S Tick u shaped rows was now = absurd (omega arith)
drop-next script S Idle u shaped rows was now = absurd (omega arith)
