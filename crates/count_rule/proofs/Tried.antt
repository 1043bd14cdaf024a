-- The last close: the compare and exchange that wins, and the one that fails.
use Rattle.std.proofs.Common.{◌≡◌, ◌≢◌, ℕ, ◌-◌, ◌<◌, ◌≤◌, Bool, eqb, List, [], ◌∷◌, length, filter, set, sym, refl, ◌∙◌, subst, inl, inr, arith, IsTrue, length-set, get_or, get_or-set_other, get_or-set_same, eqb-true, eq-eqb}
use Rattle.std.proofs.lemmas.Bool.{cases_Bool}
use Rattle.std.specs.List.{list_any}
use mathlib.Core.Option.{none}
use lib.Seq.{set-get_or}
use prog.Atomic.{either}
use Rattle.atomic_table.specs.Table.{Me, step, Allows}
use Rattle.ref_words.specs.declared.answer.Stage.TheVariants.{Fresh, InUse, Gone}
use Rattle.ref_words.specs.Words.{HasNoteOut}
use Rattle.count_rule.specs.declared.view.Counted.{Counted}
use Rattle.count_rule.specs.declared.view.View.{View}
use Rattle.count_rule.specs.declared.view.View.TheVariants.{Kernel}
use Rattle.count_rule.specs.Views.{words_of, own_of, holding}
use Rattle.count_rule.specs.Shows.{IsStillHeld, WasOut, Shows, Holds}
use Rattle.count_rule.specs.Moves.{counted_of, closing_last, failing, tried, tries_last}
use Rattle.count_rule.specs.Seats.{IsCalm}
use Rattle.count_rule.proofs.Kept.{kept_closed_last, known_placed}
use Rattle.count_rule.proofs.Shown.{none_if, shown_set, shown_as, few_holding}
use Rattle.count_rule.proofs.Moved.{allowed, inside_words}

won : (k : Counted) (words : List ℕ) (views : List View) (p : ℕ) → Shows k words views → own_of k p ≡ 1 → IsCalm k
    → get_or words p 0 ≡ 1 → Shows (closing_last p k) (set words p 9223372036854775808) views
won k words views p r one calm is =
    let known : 0 < own_of k p = omega arith in
    let placed = known_placed k.own p known in
    let sized : p < length k.stages = omega (arith, r.kept.sizes) in record {
      as_many = length-set words p 9223372036854775808 ∙ (r.as_many ∙ sym (length-set k.own p (own_of k p - 1)));
      late_sizes = r.late_sizes ∙ sym (length-set k.own p (own_of k p - 1));
      shown =
          shown_set k (closing_last p k) words views p 9223372036854775808
          (λ q ne. get_or-set_other k.stages p q Gone Fresh ne) (λ q ne. get_or-set_other k.own p q (own_of k p - 1) 0 ne)
          (λ inside. let was = shown_as k words views p InUse r inside (r.kept.in_use p known) in
          rw (get_or-set_same k.stages p Gone Fresh sized, get_or-set_same k.own p (own_of k p - 1) 0 placed)
          (omega (arith, was.2), omega arith, omega (arith, was.0))) refl r.shown;
      are_notes = r.are_notes;
      kept = kept_closed_last (words_of [] k) p r.kept one;
      few_late = r.few_late;
      few_made = r.few_made;
      closing = none_if k.closing (IsStillHeld (closing_last p k) (set words p 9223372036854775808)) calm.0;
      joined = none_if k.joined (WasOut (closing_last p k)) calm.1;
    }

-- a word that isn't 1 where the own count is: a ticket of the place holds
more_holds : (k : Counted) (words : List ℕ) (views : List View) (p : ℕ) → Shows k words views → own_of k p ≡ 1
    → get_or words p 0 ≢ 1 → (1 ≤ holding p views) × (2 ≤ get_or words p 0)
more_holds k words views p r one other =
    let known : 0 < own_of k p = omega arith in
    let was = shown_as k words views p InUse r (inside_words k words views p r known) (r.kept.in_use p known) in
    (omega (arith, was.0), omega (arith, was.0))

failed : (k : Counted) (words : List ℕ) (views : List View) (p : ℕ) → Shows k words views → own_of k p ≡ 1
    → get_or words p 0 ≢ 1 → Shows (failing p k) words views
failed k words views p r one other = record {
  as_many = r.as_many;
  late_sizes = r.late_sizes;
  shown = r.shown;
  are_notes = r.are_notes;
  kept = r.kept;
  few_late = r.few_late;
  few_made = r.few_made;
  closing = (inside_words k words views p r (omega arith), one, (more_holds k words views p r one other).1);
  joined = r.joined;
}

any_filter : {X : Type 0} (test : X → Bool) (xs : List X) → 1 ≤ length (filter test xs) → IsTrue (list_any test xs)
any_filter test [] h = absurd (omega arith)
any_filter test (x ∷ xs) h =
    elim (cases_Bool (test x)) [
      | inl passes ↦ rw passes refl
      | inr fails ↦ rw fails (any_filter test xs (rw fails at h))
    ]

-- then a note of the place is out
pub note_out : (k : Counted) (words : List ℕ) (views : List View) (p : ℕ) → Shows k words views → own_of k p ≡ 1
    → get_or words p 0 ≢ 1 → HasNoteOut (words_of [] k) p
note_out k words views p r one other =
    any_filter (λ slip. eqb slip.place p) k.out (omega (arith, (more_holds k words views p r one other).0, few_holding k words views p r))

tries : (k : Counted) (words : List ℕ) (views : List View) (p : ℕ) → Shows k words views → own_of k p ≡ 1 → IsCalm k
    → Shows (tried p (eqb (get_or words p 0) 1) k) (set words p (either (eqb (get_or words p 0) 1) 9223372036854775808 (get_or words p 0))) views
tries k words views p r one calm =
    elim (cases_Bool (eqb (get_or words p 0) 1)) [
      | inl hit ↦ rw hit (won k words views p r one calm (eqb-true (get_or words p 0) 1 hit))
      | inr miss ↦
          let other : get_or words p 0 ≢ 1 = λ e. (let yes = eq-eqb (get_or words p 0) 1 e in cc) in
          rw miss (subst (λ (ws : List ℕ). Shows (failing p k) ws views) (sym (set-get_or words p 0)) (failed k words views p r one other))
    ]

module _ {S : Type 0} where
  pub tries_allowed : (slots id : ℕ) (me : Me S View) (p : ℕ) → id ≡ 0 → me ≡ (Kernel (counted_of me.0), [])
      → IsCalm (counted_of me.0) → own_of (counted_of me.0) p ≡ 1
      → Allows Holds slots id me p (λ n. either (eqb n 1) 9223372036854775808 n) (tries_last (step slots p 1 9223372036854775808 none) me)
  tries_allowed slots id me p first is calm one =
      allowed slots id me p (λ n. either (eqb n 1) 9223372036854775808 n)
      (tries_last (step slots p 1 9223372036854775808 none) me) (λ n. tried p (eqb n 1) (counted_of me.0)) first is
      (λ words views shows fits. (
        tries (counted_of me.0) words views p shows one calm,
        (refl, λ other. note_out (counted_of me.0) words views p shows one other),
      ))
