-- What is kept of linked lists, priorities and bits stays so.
use Rattle.std.proofs.Common.{◌≡◌, ◌≢◌, ℕ, ◌<◌, ◌^◌, List, [], ◌∷◌, ◌++◌, length, get_or, set, drop, replicate, refl, sym, ap, ◌∙◌, arith, inl, inr, true, get_or-set_same, get_or-set_other, length-set}
use Rattle.std.specs.Prelude.{Some, slice_get}
use Rattle.std.specs.Int.{bit_at}
use Rattle.std.specs.List.{list_any}
use Rattle.std.proofs.lemmas.Bool.{cases_eq}
use Rattle.std.proofs.lemmas.List.{length-replicate, get_or-replicate, get_or_read, set-set}
use Rattle.std.proofs.lemmas.List.Elements.{All-push, All-head, All-tail}
use Rattle.std.proofs.lemmas.Nat.Bits.{bit_at-zero}
use Rattle.links.specs.Linked.{Linked, list_at, holds, without, with_list, pushed_back, popped_front, empty_lists}
use Rattle.links.specs.Owned.{AreOwned}
use Rattle.links.proofs.Owned.{Own, StandsIn, owned_fresh, owned_with, owned_pushed, owned_without, stands_own}
use Rattle.ready_list.specs.Kept.{AreKept, mark}

module _ (threads : ℕ) (links : Linked) (priorities : List ℕ) (mask : ℕ) (kept : AreKept threads links priorities mask) where
  -- another list of a priority, with priorities and bits to match
  with_list_kept : (p : ℕ) → p < 64 → (list priorities' : List ℕ) (mask' : ℕ)
      → AreOwned (with_list links p list) priorities' → bit_at mask' p ≡ mark list
      → ((q : ℕ) → q < 64 → q ≢ p → bit_at mask' q ≡ bit_at mask q)
      → AreKept threads (with_list links p list) priorities' mask'
  with_list_kept p low list priorities' mask' owned bit bits =
      let inside : p < length links.lists = omega (arith, kept.lists) in
      record {
        small = kept.small;
        nodes = kept.nodes;
        lists = rw length-set kept.lists;
        owned = owned;
        marks = λ q within. elim (cases_eq q p) [
          | inl here ↦ rw (here, get_or-set_same links.lists p list [] inside) bit
          | inr there ↦ rw get_or-set_other (bits q within there ∙ kept.marks q within)
        ];
      }

  -- a list with a last element has its mark
  mark_push : (xs : List ℕ) (x : ℕ) → mark (xs ++ x ∷ []) ≡ 1
  mark_push [] x = refl
  mark_push (y ∷ ys) x = refl

  pub added_kept : (t p mask' : ℕ) → t < threads → p < 64 → (list_any (holds t) links.lists ≡ true → ⊥)
      → bit_at mask' p ≡ 1 → ((q : ℕ) → q < 64 → q ≢ p → bit_at mask' q ≡ bit_at mask q)
      → AreKept threads (pushed_back links p t) (set priorities t p) mask'
  added_kept t p mask' known low unheld bit bits =
      with_list_kept p low (list_at links p ++ t ∷ []) (set priorities t p) mask'
      (owned_pushed links priorities kept.owned p t (omega (arith, kept.lists)) (omega (arith, kept.nodes)) unheld)
      (bit ∙ sym (mark_push (list_at links p) t)) bits

  pub removed_kept : (t p mask' : ℕ) → p < 64 → bit_at mask' p ≡ mark (without t (list_at links p))
      → ((q : ℕ) → q < 64 → q ≢ p → bit_at mask' q ≡ bit_at mask q)
      → AreKept threads (with_list links p (without t (list_at links p))) priorities mask'
  removed_kept t p mask' low bit bits =
      with_list_kept p low (without t (list_at links p)) priorities mask' (owned_without links priorities kept.owned p t (omega (arith, kept.lists))) bit bits

  -- the first of a priority comes behind the others
  pub turned_kept : (p first : ℕ) (rest : List ℕ) → p < 64 → list_at links p ≡ first ∷ rest
      → AreKept threads (with_list links p (rest ++ first ∷ [])) priorities mask
  turned_kept p first rest low is =
      let listed : p < length links.lists = omega (arith, kept.lists) in
      let own = rw is at (kept.owned.own p listed) in
      let bit = rw is at (kept.marks p low) in
      with_list_kept p low (rest ++ first ∷ []) priorities mask
      (owned_with links priorities kept.owned p listed (rest ++ first ∷ []) priorities refl
      (All-push (Own priorities p) rest first (All-tail (Own priorities p) first rest own)
      (All-head (Own priorities p) first rest own)) (λ q within _. kept.owned.own q within))
      (bit ∙ sym (mark_push rest first)) (λ q within _. refl)

  -- a first that was popped and pushed back stands last
  pub is_turned : (p first : ℕ) (popped pushed : Linked) → p < 64 → Some first ≡ slice_get (list_at links p) 0
      → popped ≡ popped_front links p → pushed ≡ pushed_back popped p first
      → (list_at links p ≡ first ∷ drop 1 (list_at links p))
      × (pushed ≡ with_list links p (drop 1 (list_at links p) ++ first ∷ []))
  is_turned p first popped pushed low is pop push =
      let inside : p < length links.lists = omega (arith, kept.lists) in
      let rest = drop 1 (list_at links p) in
      let left : list_at (with_list links p rest) p ≡ rest = get_or-set_same links.lists p rest [] inside in (
        some_list (list_at links p) is,
        push ∙ rw (pop, left) (ap (λ (lists : List (List ℕ)). record links { lists = lists }) (set-set links.lists p rest (rest ++ first ∷ []))),
      )
    where
      some_list : (xs : List ℕ) → Some first ≡ slice_get xs 0 → xs ≡ first ∷ drop 1 xs
      some_list [] is = absurd (cc)
      some_list (x ∷ xs) is = let same : first ≡ x = cc in rw same refl

  -- a thread stands at the priority that is read for it
  pub stands_read : (t p : ℕ) → t < threads → p ≡ get_or priorities t p → list_any (holds t) links.lists ≡ true → (p < 64) × StandsIn links t p
  stands_read t p known read held =
      let is : p ≡ get_or priorities t 0 = get_or_read priorities t p (omega (arith, kept.owned.sized, kept.nodes)) read 0 in
      let stands : StandsIn links t p = rw (← is) at (stands_own links priorities kept.owned t held) in
      (omega (arith, stands.listed, kept.lists), stands)

  -- a thread leaves its list
  pub emptied_kept : (t p place mask' : ℕ) (links' : Linked) → p < 64 → slice_get (list_at links p) place ≡ Some t
      → links' ≡ with_list links p (without t (list_at links p)) → list_at links' p ≡ [] → bit_at mask' p ≡ 0
      → ((q : ℕ) → q < 64 → q ≢ p → bit_at mask' q ≡ bit_at mask q) → AreKept threads links' priorities mask'
  emptied_kept t p place mask' links' low at is empty bit bits =
      let inside : p < length links.lists = omega (arith, kept.lists) in
      let left : without t (list_at links p) ≡ [] = sym (get_or-set_same links.lists p (without t (list_at links p)) [] inside) ∙ rw is at empty in
      rw is (removed_kept t p mask' low (rw left bit) bits)

  pub remaining_kept : (t p place : ℕ) (links' : Linked) → p < 64 → slice_get (list_at links p) place ≡ Some t
      → links' ≡ with_list links p (without t (list_at links p)) → (list_at links' p ≡ [] → ⊥)
      → AreKept threads links' priorities mask
  remaining_kept t p place links' low at is some =
      let inside : p < length links.lists = omega (arith, kept.lists) in
      let left : without t (list_at links p) ≡ list_at links' p = rw is (sym (get_or-set_same links.lists p (without t (list_at links p)) [] inside)) in
      let was : bit_at mask p ≡ 1 = kept.marks p low ∙ marked (list_at links p) place t at in
      rw is (removed_kept t p mask low (was ∙ sym (rw left (mark_some (list_at links' p) some))) (λ q within _. refl))
    where
      marked : (xs : List ℕ) (k x : ℕ) → slice_get xs k ≡ Some x → mark xs ≡ 1
      marked [] k x at = absurd (cc)
      marked (y ∷ ys) k x at = refl

      mark_some : (xs : List ℕ) → (xs ≡ [] → ⊥) → mark xs ≡ 1
      mark_some [] some = absurd (some refl)
      mark_some (y ∷ ys) some = refl

-- nothing is kept at first
pub fresh_kept : (threads : ℕ) → threads < 2 ^ 16 → AreKept threads (empty_lists threads 64) (replicate threads 0) 0
fresh_kept threads small = record {
  small = small;
  nodes = refl;
  lists = length-replicate {A = List ℕ} 64 [];
  owned = owned_fresh threads 64;
  marks = λ p low. rw (get_or-replicate {A = List ℕ} 64 p [] [] low) (bit_at-zero p);
}
