-- What holds over a run of actions, from what each does.
use Rattle.std.proofs.Common.{◌≡◌, inl, inr, ℕ, ◌+◌, ◌<◌, List, [], ◌∷◌, ◌++◌, arith, refl, sym, subst, ap, append_assoc, ◌∙◌, Bool, true, false, Option, Some, None}
use Rattle.std.specs.Prelude.{◌&&◌}
use Rattle.sym_base.specs.declared.number.ObjNo.{ObjNo}
use Rattle.script_types.specs.declared.script.Script.{Script}
use Rattle.script_types.specs.Shape.{IsShaped}
use Rattle.entry_log.specs.declared.effect.Effect.{Effect}
use Rattle.entry_log.specs.declared.entry.Entry.{Entry}
use Rattle.state_rows.specs.ObjectRows.{place_of}
use Rattle.state_rows.specs.declared.object.ObjectRow.{ObjectRow}
use Rattle.machine.specs.declared.mode.Mode.{Mode}
use Rattle.machine.specs.declared.state.State.{State}
use Rattle.machine.specs.HeldIn.{held_in}
use Rattle.machine.specs.History.{after_from, choosing, is_deathless, next_by, transition, IsLegalFrom}
use Rattle.machine.specs.Holding.{EachFitsHolders, held_after_all}
use Rattle.machine.specs.References.{count_of, pluses, minuses}
use Rattle.machine.specs.Rows.{object_of}
use Rattle.machine.specs.Told.{deaths, removals}
use Rattle.machine.specs.WellFormed.{AreRows, IsAlive, is_dead}
use Rattle.move_laws.proofs.Lives.Bits.{alive_undead, dead_le, gone, gone_le}
use Rattle.move_laws.proofs.Lives.LivesMove.{LivesMove, zero_or}
use Rattle.move_laws.proofs.MoveLaws.Sound.{Sound}
use Rattle.machine_laws.proofs.Reached.AfterHistory.{rows-keeping}
use Rattle.machine_laws.proofs.Reached.Histories.{after_from-push}
use Rattle.machine_laws.proofs.Reached.NextState.{sound-next}
use Rattle.move_laws.proofs.References.Effects.{pluses-append, minuses-append, deaths-append, removals-append, fits-append, fits-same}
use Rattle.machine_safe.specs.CountAfter.{effects_of}

-- what entries tell, and others behind them
pub effects-append : (xs ys : List Entry) → effects_of (xs ++ ys) ≡ effects_of xs ++ effects_of ys
effects-append [] ys = refl
effects-append (x ∷ xs) ys = ap (λ (l : List Effect). x.effects ++ l) (effects-append xs ys) ∙ sym (append_assoc x.effects (effects_of xs) (effects_of ys))

-- each entry of a run tells what its actor did, with the choice that it tells
abbrev pub IsSoundRun : Script → State → List Entry → Type 0
IsSoundRun script S [] = Unit {0}
IsSoundRun script S (e ∷ es) = Sound script (choosing e S) (next_by script S e) e.effects × IsSoundRun script (next_by script S e) es

-- the entries of a legal history are a sound run
pub legal_runs : (script : Script) (S : State) (place : ℕ) (es : List Entry) → IsShaped script → AreRows script S
    → IsLegalFrom script S place es → IsSoundRun script S es
legal_runs script S place [] shaped rows legal = tt
legal_runs script S place (e ∷ es) shaped rows legal =
    let T = choosing e S in
    let told : e.effects ≡ (transition script T e.actor).outcome.effects = ap (λ (x : Entry). x.effects) legal.0.told in
    let step = sound-next script T e.actor shaped (rows-keeping script S (S.mode.shared && is_deathless e.effects) rows) in (
      subst (λ (effects : List Effect). Sound script T (next_by script S e) effects) (sym told) step,
      legal_runs script (next_by script S e) (place + 1) es shaped step.rows legal.1,
    )

pub run-front : (script : Script) (S : State) (xs ys : List Entry) → IsSoundRun script S (xs ++ ys) → IsSoundRun script S xs
run-front script S [] ys h = tt
run-front script S (x ∷ xs) ys h = (h.0, run-front script (next_by script S x) xs ys h.1)

pub run-rest : (script : Script) (S : State) (xs ys : List Entry) → IsSoundRun script S (xs ++ ys) → IsSoundRun script (after_from script S xs) ys
run-rest script S [] ys h = h
run-rest script S (x ∷ xs) ys h = run-rest script (next_by script S x) xs ys h.1

-- the last entry of a run
pub run-last : (script : Script) (S : State) (xs : List Entry) (e : Entry) → IsSoundRun script S (xs ++ e ∷ [])
    → Sound script (choosing e (after_from script S xs)) (after_from script S (xs ++ e ∷ [])) e.effects
run-last script S xs e h =
    subst (λ (T : State). Sound script (choosing e (after_from script S xs)) T e.effects)
    (sym (after_from-push script S xs e)) (run-rest script S xs (e ∷ []) h).0

-- counts move as the effects of all entries say
pub run-counts : (script : Script) (S : State) (es : List Entry) (o : ObjNo) → IsSoundRun script S es
    → count_of (after_from script S es) o + minuses (effects_of es) o ≡ count_of S o + pluses (effects_of es) o
run-counts script S [] o h = refl
run-counts script S (e ∷ es) o h =
    let a = h.0.lives.counts o in
    let r = run-counts script (next_by script S e) es o h.1 in
    let p = pluses-append e.effects (effects_of es) o in
    let m = minuses-append e.effects (effects_of es) o in omega arith

-- whether an object is dead moves as the deaths and the sweeps of all entries say
pub run-dead : (script : Script) (S : State) (es : List Entry) (o : ObjNo) → IsSoundRun script S es
    → is_dead (object_of (after_from script S es) o) + removals (effects_of es) o ≡ is_dead (object_of S o) + deaths (effects_of es) o
run-dead script S [] o h = omega arith
run-dead script S (e ∷ es) o h =
    let a = h.0.lives.deads o in
    let r = run-dead script (next_by script S e) es o h.1 in
    let d = deaths-append e.effects (effects_of es) o in
    let x = removals-append e.effects (effects_of es) o in omega arith

-- the mode that tells whether numbers are used again stays
pub run-reuse : (script : Script) (S : State) (es : List Entry) → IsSoundRun script S es → (after_from script S es).mode.reuse ≡ S.mode.reuse
run-reuse script S [] h = refl
run-reuse script S (e ∷ es) h = run-reuse script (next_by script S e) es h.1 ∙ ap (λ (m : Mode). m.reuse) h.0.lives.mode

-- where they aren't, an object is gone where it was or died, and nobody opens one that is
pub run-gone : (script : Script) (S : State) (es : List Entry) (o : ObjNo) → S.mode.reuse ≡ false → IsSoundRun script S es
    → gone (after_from script S es).references.objects o ≡ gone S.references.objects o + deaths (effects_of es) o
run-gone script S [] o first h = omega arith
run-gone script S (e ∷ es) o first h =
    let a = (h.0.lives.once first).stays o in
    let r = run-gone script (next_by script S e) es o (ap (λ (m : Mode). m.reuse) h.0.lives.mode ∙ first) h.1 in
    let d = deaths-append e.effects (effects_of es) o in omega arith

pub run-unopened : (script : Script) (S : State) (es : List Entry) (o : ObjNo) → S.mode.reuse ≡ false → IsSoundRun script S es
    → gone S.references.objects o ≡ 1 → pluses (effects_of es) o ≡ 0
run-unopened script S [] o first h dead = refl
run-unopened script S (e ∷ es) o first h dead =
    let T = next_by script S e in
    let moved = (h.0.lives.once first).stays o in
    let le = gone_le T.references.objects o in
    let none : pluses e.effects o ≡ 0 = zero_or (pluses e.effects o) (λ some. let a = (h.0.lives.once first).opens o some in absurd (omega arith)) in
    let r = run-unopened script T es o (ap (λ (m : Mode). m.reuse) h.0.lives.mode ∙ first) h.1 (omega arith) in
    let p = pluses-append e.effects (effects_of es) o in omega arith

-- nobody opens an object from its death until its sweep
pub run-closed : (script : Script) (S : State) (es : List Entry) (o : ObjNo) → IsSoundRun script S es
    → is_dead (object_of S o) ≡ 1 → removals (effects_of es) o ≡ 0 → pluses (effects_of es) o ≡ 0
run-closed script S [] o h dead unswept = refl
run-closed script S (e ∷ es) o h dead unswept =
    let T = next_by script S e in
    let parts = removals-append e.effects (effects_of es) o in
    let moved = h.0.lives.deads o in
    let le = dead_le (object_of T o) in
    let first : pluses e.effects o ≡ 0 = zero_or (pluses e.effects o) (λ some. let a = (h.0.lives.opens o some).0 in absurd (omega arith)) in
    let r = run-closed script T es o h.1 (omega arith) (omega arith) in
    let p = pluses-append e.effects (effects_of es) o in omega arith

-- No object of a place is alive at a number, and none will be: its object died, or was swept.
pub record IsOver (S : State) (o : ObjNo) (place : ℕ) : Type 0 where
  pub past : place < S.references.made
  pub over : (row : ObjectRow) → object_of S o ≡ Some row → row.place ≡ place → row.dead ≡ true

pub over_not_alive : (S : State) (o : ObjNo) (place : ℕ) → IsOver S o place → IsAlive (object_of S o) → place_of (object_of S o) ≡ place → ⊥
over_not_alive S o place h = by (object_of S o) refl
  where
    by : (x : Option ObjectRow) → object_of S o ≡ x → IsAlive x → place_of x ≡ place → ⊥
    by None is alive at = absurd alive
    by (Some row) is alive at = let dead = h.over row is at in absurd (cc)

pub over-next : (S T : State) (effects : List Effect) (o : ObjNo) (place : ℕ) → LivesMove S T effects → IsOver S o place → IsOver T o place
over-next S T effects o place l h = record {
  past = let a = l.renews.more in let b = h.past in omega arith;
  over = λ row is at. elim (l.renews.stood o.0 row is) as (λ _. row.dead ≡ true) [
    | inl old ↦ old.3 (h.over old.0 old.1 (old.2 ∙ at))
    | inr new ↦ let a = h.past in absurd (omega arith)
  ];
}

pub run-over : (script : Script) (S : State) (es : List Entry) (o : ObjNo) (place : ℕ) → IsSoundRun script S es → IsOver S o place
    → IsOver (after_from script S es) o place
run-over script S [] o place h over = over
run-over script S (e ∷ es) o place h over =
    run-over script (next_by script S e) es o place h.1
    (over-next (choosing e S) (next_by script S e) e.effects o place h.0.lives (record { past = over.past; over = over.over }))

-- it is over where no object is alive at the number, and where one is swept
pub over-unalive : (S : State) (o : ObjNo) (place : ℕ) → place < S.references.made → (IsAlive (object_of S o) → ⊥) → IsOver S o place
over-unalive S o place past unalive = record { past = past; over = λ row is at. dead-row row is row.dead refl }
  where
    dead-row : (row : ObjectRow) → object_of S o ≡ Some row → (b : Bool) → row.dead ≡ b → row.dead ≡ true
    dead-row row is true e = e
    dead-row row is false e = absurd (unalive (subst IsAlive (sym is) e))

pub over-swept : (S T : State) (effects : List Effect) (o : ObjNo) (place : ℕ) → LivesMove S T effects → place < S.references.made
    → 0 < removals effects o → IsOver T o place
over-swept S T effects o place l past some =
    over-next S T effects o place l (over-unalive S o place past
    (λ alive. let dead = (l.removes o some).0 in let undead = alive_undead (object_of S o) alive in absurd (omega arith)))

-- so an object that is alive at its place wasn't swept since
pub run-unswept : (script : Script) (S : State) (es : List Entry) (o : ObjNo) (place : ℕ) → IsSoundRun script S es → place < S.references.made
    → IsAlive (object_of (after_from script S es) o) → place_of (object_of (after_from script S es) o) ≡ place → removals (effects_of es) o ≡ 0
run-unswept script S [] o place h past alive at = refl
run-unswept script S (e ∷ es) o place h past alive at =
    let T = next_by script S e in
    let first : removals e.effects o ≡ 0 = zero_or (removals e.effects o) (λ some.
    over_not_alive (after_from script T es) o place
    (run-over script T es o place h.1 (over-swept (choosing e S) T e.effects o place h.0.lives past some)) alive at) in
    let rest = run-unswept script T es o place h.1 (let a = h.0.lives.renews.more in omega arith) alive at in
    let both = removals-append e.effects (effects_of es) o in omega arith

-- each effect fits who holds what in the state
pub run-fits : (script : Script) (S : State) (es : List Entry) → IsSoundRun script S es → EachFitsHolders (held_in S) (effects_of es)
run-fits script S [] h = tt
run-fits script S (e ∷ es) h =
    let T = next_by script S e in
    fits-append (held_in S) e.effects (effects_of es) h.0.holders.fits
    (fits-same (held_in T) (held_after_all (held_in S) e.effects) (effects_of es) (λ g x. sym (h.0.holders.moves g x)) (run-fits script T es h.1))
