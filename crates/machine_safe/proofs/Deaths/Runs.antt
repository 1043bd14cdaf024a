-- What an action tells of deaths, and what a history does.
use Rattle.std.proofs.Common.{◌≡◌, ℕ, ◌+◌, ◌<◌, ◌≤◌, Bool, List, [], ◌∷◌, arith, refl, sym, ap, subst, length}
use Rattle.std.specs.Prelude.{◌&&◌}
use Rattle.std.proofs.lemmas.List.{append-nil}
use Rattle.sym_base.specs.declared.number.ObjNo.{ObjNo}
use Rattle.script_types.specs.declared.script.Script.{Script}
use Rattle.script_types.specs.Shape.{IsShaped}
use Rattle.entry_log.specs.declared.effect.Effect.{Effect}
use Rattle.entry_log.specs.declared.entry.Actor.{Actor}
use Rattle.entry_log.specs.declared.entry.Actor.TheVariants.{Thread, Irq, Idfc, Tick, Idle}
use Rattle.entry_log.specs.declared.entry.Entry.{Entry}
use Rattle.state_rows.specs.Deferred.{next_immediate}
use Rattle.machine.specs.declared.moves.Move.{Move}
use Rattle.machine.specs.declared.moves.Move.TheVariants as move
use Rattle.machine.specs.declared.plan.Body.TheVariants.{Interrupt}
use Rattle.machine.specs.declared.plan.Plan.{Plan}
use Rattle.machine.specs.declared.plan.Plan.TheVariants.{Runs}
use Rattle.machine.specs.declared.state.State.{State}
use Rattle.machine.specs.Bodies.{decision_by}
use Rattle.machine.specs.Fits.{EachFits, FitsMove, Sane, most_owed}
use Rattle.machine.specs.History.{after_from, choosing, is_deathless, keeping, next, next_by, transition, IsLegalFrom, IsNext}
use Rattle.machine.specs.Interrupts.{done_by, immediate, immediate_plan, interrupt, supervisor}
use Rattle.machine.specs.Moves.{moved, perform, tell, told}
use Rattle.machine.specs.References.{total}
use Rattle.machine.specs.Rows.{owed_of}
use Rattle.machine.specs.Transition.{act}
use Rattle.machine.specs.WellFormed.{AreRows, weight}
use Rattle.machine_laws.proofs.Fitting.Actions.{of_action}
use Rattle.machine_laws.proofs.Fitting.Bodies.{Goes}
use Rattle.machine_laws.proofs.Fitting.Interrupts.{goes-immediate, goes-interrupt, sane-supervisor}
use Rattle.move_laws.proofs.MoveLaws.Run.{sane-after, sound-move, weight-move}
use Rattle.machine_safe.specs.CountAfter.{effects_of}
use Rattle.machine_safe.proofs.Done.{IsDone, done-next, rows-by, rows-choosing}
use Rattle.machine_safe.proofs.Deaths.DeathsTold.{Dies, dies-then, gains-keeping}
use Rattle.machine_safe.proofs.Deaths.Moves.{dies-move, dies-none, dies-pay}
use Rattle.state_rows.specs.declared.duty.Owed.{Owed}

-- moves that fit, one after the other
pub each-dies : (script : Script) (S : State) (t : ObjNo) (ms : List Move) → EachFits script t ms S
    → total weight (owed_of S t) + total most_owed ms ≤ 12 → Sane script t S → Dies S (perform t ms S) (tell t ms S)
each-dies script S t [] fits few s = dies-none S
each-dies script S t (m ∷ ms) fits few s =
    let T = moved t m S in
    let one = sound-move script S t m fits.0 (omega arith) s in
    let w = weight-move script S t m fits.0 in
    dies-then S T (perform t ms T) (told m S) (tell t ms T) (dies-move script S t m s.rows fits.0)
    (each-dies script T t ms fits.1 (omega arith) (sane-after script S T t (told m S) s one))

dies-act : (script : Script) (S : State) (t : ObjNo) → IsShaped script → AreRows script S → Dies S (act script S t).state (act script S t).outcome.effects
unfolding act
dies-act script S t shaped rows = of_action script S t (λ (ms : List Move). Dies S (perform t ms S) (tell t ms S)) shaped rows
    (λ ms sane goes. each-dies script S t ms goes.each goes.few sane)
    (λ what rest sane owes. subst (Dies S (moved t (move.Pay what) S)) (sym (append-nil (told (move.Pay what) S)))
    (dies-pay script S t what rest owes (let a = sane.inside in let b = rows.references.sized.duties in
    omega arith) rows)) (dies-none S)

dies-done : (script : Script) (S : State) (plan : Plan) → AreRows script S
    → Goes script supervisor S (decision_by script supervisor S plan).moves
    → Dies S (done_by script S plan).state (done_by script S plan).outcome.effects
dies-done script S plan rows goes =
    each-dies script S supervisor (decision_by script supervisor S plan).moves goes.each goes.few
    (sane-supervisor script S rows)

dies-interrupt : (script : Script) (S : State) (k : ℕ) → IsShaped script → AreRows script S
    → Dies S (interrupt script S k).state (interrupt script S k).outcome.effects
unfolding interrupt
dies-interrupt script S k shaped rows = dies-done script S (Runs (Interrupt k)) rows (goes-interrupt script S k shaped rows)

dies-immediate : (script : Script) (S : State) → IsShaped script → AreRows script S → Dies S (immediate script S).state (immediate script S).outcome.effects
unfolding immediate
dies-immediate script S shaped rows =
    let found = next_immediate S.synchronization.deferred in
    dies-done script S (immediate_plan script S found) rows (goes-immediate script S found shaped rows refl)

-- what an actor's action tells
pub dies-next : (script : Script) (S : State) (actor : Actor) → IsShaped script → AreRows script S
    → Dies S (next script S actor) (transition script S actor).outcome.effects
dies-next script S (Thread t) shaped rows = dies-act script S t shaped rows
dies-next script S (Irq k) shaped rows = dies-interrupt script S k shaped rows
dies-next script S Idfc shaped rows = dies-immediate script S shaped rows
dies-next script S Tick shaped rows = dies-none S
dies-next script S Idle shaped rows = dies-none S

-- and what an entry does
pub dies-entry : (script : Script) (S : State) (place : ℕ) (e : Entry) → IsShaped script → AreRows script S
    → IsDone script S place e → Dies S (next script S e.actor) e.effects
dies-entry script S place e shaped rows done =
    let told : e.effects ≡ (transition script S e.actor).outcome.effects = ap (λ (x : Entry). x.effects) done.told in
    subst (λ (effects : List Effect). Dies S (next script S e.actor) effects) (sym told) (dies-next script S e.actor shaped rows)

-- what is told of deaths is asked of no choice
dies-keeping : (S T : State) (keep : Bool) (effects : List Effect) → Dies (keeping keep S) T effects → Dies S T effects
dies-keeping S T keep effects h = record {
  live = h.live;
  left = h.left;
  held = h.held;
  locks = h.locks;
  takes_none = h.takes_none;
  signals_none = h.signals_none;
  gains_none = gains-keeping S keep effects h.gains_none;
  were = h.were;
}

-- an entry of a legal history
pub dies-by : (script : Script) (S : State) (place : ℕ) (e : Entry) → IsShaped script → AreRows script S
    → IsNext script S place e → Dies S (next_by script S e) e.effects
dies-by script S place e shaped rows here =
    dies-keeping S (next_by script S e) (S.mode.shared && is_deathless e.effects) e.effects
    (dies-entry script (choosing e S) place e shaped (rows-choosing script S e rows) (done-next script S place e here))

-- and all of them
pub dies-run : (script : Script) (S : State) (place : ℕ) (es : List Entry) → IsShaped script → AreRows script S
    → IsLegalFrom script S place es → Dies S (after_from script S es) (effects_of es)
dies-run script S place [] shaped rows legal = dies-none S
dies-run script S place (e ∷ es) shaped rows legal =
    let T = next_by script S e in
    dies-then S T (after_from script T es) e.effects (effects_of es) (dies-by script S place e shaped rows legal.0)
    (dies-run script T (place + 1) es shaped (rows-by script S e shaped rows) legal.1)

-- What each move keeps that fits, and each payment, is kept by an action.
each-kept : (script : Script) (P : State → Type 0)
    → ((S : State) (t : ObjNo) (m : Move) → AreRows script S → FitsMove script t m S → P S → P (moved t m S))
    → (S : State) (t : ObjNo) (ms : List Move) → EachFits script t ms S
    → total weight (owed_of S t) + total most_owed ms ≤ 12 → Sane script t S → P S → P (perform t ms S)
each-kept script P moves S t [] fits few s p = p
each-kept script P moves S t (m ∷ ms) fits few s p =
    let one = sound-move script S t m fits.0 (omega arith) s in
    let w = weight-move script S t m fits.0 in
    each-kept script P moves (moved t m S) t ms fits.1 (omega arith) (sane-after script S (moved t m S) t (told m S) s one) (moves S t m s.rows fits.0 p)

module _ (script : Script) (P : State → Type 0)
    (moves : (S : State) (t : ObjNo) (m : Move) → AreRows script S → FitsMove script t m S → P S → P (moved t m S))
    (pays : (S : State) (t : ObjNo) (what : Owed) (rest : List Owed) → AreRows script S → owed_of S t ≡ what ∷ rest
    → t.0 < length S.references.owed → P S → P (moved t (move.Pay what) S)) where
  kept-act : (S : State) (t : ObjNo) → IsShaped script → AreRows script S → P S → P (act script S t).state
  unfolding act
  kept-act S t shaped rows p = of_action script S t (λ (ms : List Move). P (perform t ms S)) shaped rows
      (λ ms sane goes. each-kept script P moves S t ms goes.each goes.few sane p)
      (λ what rest sane owes. pays S t what rest rows owes
      (let a = sane.inside in let b = rows.references.sized.duties in omega arith) p) p

  kept-done : (S : State) (plan : Plan) → AreRows script S
      → Goes script supervisor S (decision_by script supervisor S plan).moves → P S → P (done_by script S plan).state
  kept-done S plan rows goes p =
      each-kept script P moves S supervisor (decision_by script supervisor S plan).moves goes.each goes.few
      (sane-supervisor script S rows) p

  kept-interrupt : (S : State) (k : ℕ) → IsShaped script → AreRows script S → P S → P (interrupt script S k).state
  unfolding interrupt
  kept-interrupt S k shaped rows p = kept-done S (Runs (Interrupt k)) rows (goes-interrupt script S k shaped rows) p

  kept-immediate : (S : State) → IsShaped script → AreRows script S → P S → P (immediate script S).state
  unfolding immediate
  kept-immediate S shaped rows p =
      let found = next_immediate S.synchronization.deferred in
      kept-done S (immediate_plan script S found) rows (goes-immediate script S found shaped rows refl) p

  pub kept-next : (S : State) (actor : Actor) → IsShaped script → AreRows script S → P S → P (next script S actor)
  kept-next S (Thread t) shaped rows p = kept-act S t shaped rows p
  kept-next S (Irq k) shaped rows p = kept-interrupt S k shaped rows p
  kept-next S Idfc shaped rows p = kept-immediate S shaped rows p
  kept-next S Tick shaped rows p = p
  kept-next S Idle shaped rows p = p
