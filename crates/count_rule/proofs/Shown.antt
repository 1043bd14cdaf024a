-- What the words show, where one word and the kernel's view change, and how far words are from the ends of their type.
use Rattle.ref_words.specs.declared.answer.Found.{Found}
use Rattle.std.proofs.Common.{◌≡◌, ◌≢◌, ℕ, ◌+◌, ◌<◌, ◌≤◌, eqb, List, length, set, sym, ap, ◌∙◌, subst, arith, Option, None, IfSome, length-set, get_or-set_other, get_or-set_same, ◌&&◌, get_or, Bool}
use Rattle.std.proofs.lemmas.Bool.{and_parts}
use mathlib.Core.Logic.{dite}
use native.Mathlib.Decide.{ℕ_discrete}
use Rattle.ref_words.specs.declared.answer.Stage.{Stage}
use Rattle.ref_words.specs.declared.answer.Stage.TheVariants.{InUse, Gone}
use Rattle.ref_words.specs.declared.slip.Slip.{Slip}
use Rattle.ref_words.specs.Plain.{notes_of}
use Rattle.count_rule.specs.declared.view.Counted.{Counted}
use Rattle.count_rule.specs.declared.view.View.{View}
use Rattle.count_rule.specs.Views.{own_of, stage_of, late_of, tickets, holds_open, found_dead, holding, too_late}
use Rattle.count_rule.specs.Shows.{IsShown, IsShownAt, Shows}
use Rattle.count_rule.proofs.Tickets.{tickets_within}

pub none_if : {X : Type 0} (o : Option X) (P : X → Type 0) → o ≡ None → IfSome o P
none_if o P none = subst (λ x. IfSome x P) (sym none) tt

-- the same of other views with as many tickets, whichever are counted
pub shows_views : (k : Counted) (words : List ℕ) (views others : List View) → ((test : Slip → Option Found → Bool) → tickets test others ≡ tickets test views)
    → Shows k words views → Shows k words others
shows_views k words views others same r = record {
  as_many = r.as_many;
  late_sizes = r.late_sizes;
  shown = λ p inside. subst (λ (x : ℕ × ℕ). IsShown (stage_of k p) (get_or words p 0) (own_of k p) x.0 (late_of k p + x.1))
      (λ i. (
        sym (same (λ slip found. eqb slip.place p && holds_open found)) i,
        sym (same (λ slip found. eqb slip.place p && found_dead found)) i,
      )) (r.shown p inside);
  are_notes = λ test. same (λ slip found. test slip) ∙ r.are_notes test;
  kept = r.kept;
  few_late = r.few_late;
  few_made = r.few_made;
  closing = r.closing;
  joined = r.joined;
}

-- each place is shown, where one word changes and what the kernel knows of other places stays
pub shown_set : (k new : Counted) (words : List ℕ) (views : List View) (p n : ℕ)
    → ((q : ℕ) → q ≢ p → stage_of new q ≡ stage_of k q) → ((q : ℕ) → q ≢ p → own_of new q ≡ own_of k q)
    → (p < length words → IsShown (stage_of new p) n (own_of new p) (holding p views) (late_of k p + too_late p views))
    → new.late ≡ k.late → ((q : ℕ) → q < length words → IsShownAt k words views q) → (q : ℕ)
    → q < length (set words p n) → IsShownAt new (set words p n) views q
shown_set k new words views p n stages owns here lates shown q inside =
    let within : q < length words = omega (arith, length-set words p n) in
    let late : late_of new q ≡ late_of k q = ap (λ (xs : List ℕ). get_or xs q 0) lates in
    dite (ℕ_discrete q p)
    (λ is. let e : p ≡ q = sym is in let lt : p < length words = omega arith in
    let at : IsShown (stage_of new p) (get_or (set words p n) p 0) (own_of new p) (holding p views) (late_of new p + too_late p views) =
    subst (λ (x : ℕ × ℕ). IsShown (stage_of new p) x.0 (own_of new p) (holding p views) (x.1 + too_late p views))
    (λ i. (sym (get_or-set_same words p n 0 lt) i, sym (ap (λ (xs : List ℕ). get_or xs p 0) lates) i)) (here lt) in
    subst (λ (z : ℕ). IsShownAt new (set words p n) views z) e at)
    (λ ne. subst (λ (x : Stage × ℕ × ℕ × ℕ). IsShown x.0 x.1 x.2 (holding q views) (x.3 + too_late q views))
    (λ i. (sym (stages q ne) i, sym (get_or-set_other words p q n 0 ne) i, sym (owns q ne) i, sym late i)) (shown q within))

-- a place of a known stage
pub shown_as : (k : Counted) (words : List ℕ) (views : List View) (p : ℕ) (stage : Stage) → Shows k words views → p < length words → stage_of k p ≡ stage
    → IsShown stage (get_or words p 0) (own_of k p) (holding p views) (late_of k p + too_late p views)
shown_as k words views p stage r inside is =
    subst (λ (x : Stage). IsShown x (get_or words p 0) (own_of k p) (holding p views) (late_of k p + too_late p views))
    is (r.shown p inside)

-- no more tickets of a place hold, or came too late, than notes of it are out
pub few_holding : (k : Counted) (words : List ℕ) (views : List View) (p : ℕ) → Shows k words views → holding p views ≤ notes_of p k.out
few_holding k words views p r =
    let all = tickets_within (λ slip found. eqb slip.place p && holds_open found) (λ slip found. eqb slip.place p)
    (λ s f h. (and_parts (eqb s.place p) (holds_open f) h).0) views in
    let notes = r.are_notes (λ slip. eqb slip.place p) in omega arith

pub few_too_late : (k : Counted) (words : List ℕ) (views : List View) (p : ℕ) → Shows k words views → too_late p views ≤ notes_of p k.out
few_too_late k words views p r =
    let all = tickets_within (λ slip found. eqb slip.place p && found_dead found) (λ slip found. eqb slip.place p)
    (λ s f h. (and_parts (eqb s.place p) (found_dead f) h).0) views in
    let notes = r.are_notes (λ slip. eqb slip.place p) in omega arith

-- a word in use is far below the mark, and one of a gone place has it and is far below its type's end
pub in_use_small : (k : Counted) (words : List ℕ) (views : List View) (p : ℕ) → Shows k words views → p < length words
    → stage_of k p ≡ InUse → get_or words p 0 ≤ 2147483712
in_use_small k words views p r inside is =
    let at = shown_as k words views p InUse r inside is in let few = few_holding k words views p r in let small = r.kept.small p in omega (arith, at.0)

pub gone_small : (k : Counted) (words : List ℕ) (views : List View) (p : ℕ) → Shows k words views → p < length words
    → stage_of k p ≡ Gone → get_or words p 0 < 9223372041149743104
gone_small k words views p r inside is =
    let at = shown_as k words views p Gone r inside is in
    let few = few_too_late k words views p r in
    let late = r.few_late p in
    let made = r.few_made in
    omega (arith, at.0)
