-- The split, by which a ticket goes out.
use Rattle.ref_words.specs.declared.answer.Found.{Found}
use Rattle.std.proofs.Common.{◌≡◌, ℕ, ◌+◌, ◌<◌, Bool, false, ◌&&◌, eqb, List, [], ◌∷◌, ◌++◌, length, filter, set, sym, refl, ap, ◌∙◌, subst, inl, inr, arith, Option, None, length-append, get_or}
use Rattle.std.proofs.lemmas.Bool.{cases_Bool}
use Rattle.std.proofs.lemmas.List.Elements.{filter-append}
use mathlib.Core.Option.{some}
use lib.ListN.{get_elem?}
use Rattle.atomic_table.specs.Table.{State, Splits}
use Rattle.atomic_table.proofs.Lists.{at_longer}
use Rattle.ref_words.specs.declared.slip.Slip.{Slip}
use Rattle.ref_words.specs.Words.{IsCreated}
use Rattle.ref_words.proofs.Notes.{notes_all, notes_append}
use Rattle.count_rule.specs.declared.view.Counted.{Counted}
use Rattle.count_rule.specs.declared.view.View.{View}
use Rattle.count_rule.specs.declared.view.View.TheVariants.{Kernel, Ticket}
use Rattle.count_rule.specs.Views.{words_of, own_of, stage_of, late_of, ticket_bit, tickets, holds_open, found_dead, holding, too_late}
use Rattle.count_rule.specs.Shows.{IsShown, IsStillHeld, WasOut, Shows, Holds}
use Rattle.count_rule.specs.Moves.{counted_of, sending, sent, new_ticket}
use Rattle.count_rule.specs.Seats.{IsCalm}
use Rattle.count_rule.proofs.Tickets.{tickets_kernel, tickets_snoc}
use Rattle.count_rule.proofs.Kept.{kept_sent}
use Rattle.count_rule.proofs.Shown.{none_if}
use Rattle.count_rule.proofs.Moved.{sees, first_set}

-- a ticket that didn't open is counted neither way
bit_unopened : (flag : Option Found → Bool) → flag None ≡ false → (p : ℕ) (s : Slip)
    → ticket_bit (λ slip found. eqb slip.place p && flag found) (Ticket s None) ≡ 0
bit_unopened flag none p s =
    elim (cases_Bool (eqb s.place p)) [
      | inl here ↦ rw (here, none) refl
      | inr there ↦ rw there refl
    ]

filter_one : (test : Slip → Bool) (s : Slip) → length (filter test (s ∷ [])) ≡ ticket_bit (λ slip found. test slip) (Ticket s None)
filter_one test s =
    elim (cases_Bool (test s)) [
      | inl passes ↦ rw passes refl
      | inr fails ↦ rw fails refl
    ]

sent_shows : (k : Counted) (words : List ℕ) (views : List View) (p : ℕ) → Shows k words views
    → get_elem? views 0 ≡ some (Kernel k) → IsCalm k → IsCreated (words_of [] k) p → own_of k p < 2147483648
    → length k.out < 64 → k.made < 4294967295
    → Shows (sending p k) words (set views 0 (Kernel (sending p k)) ++ Ticket (record { place = p; number = k.made + 1 }) None ∷ [])
sent_shows k words views p r at calm made low few short =
    let slip : Slip = record { place = p; number = k.made + 1 } in
    let new : List View = set views 0 (Kernel (sending p k)) ++ Ticket slip None ∷ [] in
    let count : (test : Slip → Option Found → Bool) → tickets test new ≡ tickets test views + ticket_bit test (Ticket slip None) =
    λ test. tickets_snoc test (set views 0 (Kernel (sending p k))) (Ticket slip None)
    ∙ ap (λ (n : ℕ). n + ticket_bit test (Ticket slip None)) (tickets_kernel test views 0 k (sending p k) at) in
    record {
      as_many = r.as_many;
      late_sizes = r.late_sizes;
      shown = λ q inside.
          let as_many : holding q views ≡ holding q new = omega (arith, count (λ s f. eqb s.place q && holds_open f), bit_unopened holds_open refl q slip) in
          let as_late : too_late q views ≡ too_late q new = omega (arith, count (λ s f. eqb s.place q && found_dead f), bit_unopened found_dead refl q slip) in
          subst (λ (x : ℕ × ℕ). IsShown (stage_of k q) (get_or words q 0) (own_of k q) x.0 (late_of k q + x.1))
          (λ i. (as_many i, as_late i)) (r.shown q inside);
      are_notes = λ test.
          let both : length (filter test (k.out ++ slip ∷ []))
          ≡ length (filter test k.out) + length (filter test (slip ∷ [])) =
          rw (filter-append test k.out (slip ∷ []), length-append) refl in
          omega (arith, count (λ s f. test s), r.are_notes test, filter_one test slip);
      kept = kept_sent (words_of [] k) p r.kept made low few;
      few_late = λ q. omega (arith, r.few_late q, notes_append q k.out (slip ∷ []), notes_all q (slip ∷ []));
      few_made = omega arith;
      closing = none_if k.closing (IsStillHeld (sending p k) words) calm.0;
      joined = none_if k.joined (WasOut (sending p k)) calm.1;
    }

module _ {S : Type 0} where
  pub splits_allowed : (id : ℕ) (v : View) (p : ℕ) → id ≡ 0 → v ≡ Kernel (counted_of v) → IsCalm (counted_of v)
      → IsCreated (words_of [] (counted_of v)) p → own_of (counted_of v) p < 2147483648
      → length (counted_of v).out < 64 → (counted_of v).made < 4294967295 → Splits {S = S} Holds id v (sent p v) (new_ticket p v)
  splits_allowed id v p first is calm made low few short s r at =
      let k : Counted = counted_of v in
      let at0 : get_elem? s.views 0 ≡ some (Kernel k) = subst (λ (j : ℕ). get_elem? s.views j ≡ some (Kernel k)) first (at ∙ ap (λ (x : View). some x) is) in
      subst (λ (j : ℕ). Holds (let t : State S View = record
      { words = s.words; homes = s.homes; views = set s.views j (sent p v) ++ new_ticket p v ∷ [] } in t)) (sym first)
      record {
        kernel = sending p k;
        seated = at_longer (set s.views 0 (sent p v)) (new_ticket p v ∷ []) 0 (sent p v) (first_set s.views (Kernel k) (sent p v) at0);
        shows = sent_shows k s.words s.views p (sees s k r at0) at0 calm made low few short;
      }
