-- The first node of the greatest weight, chosen along a walk.
use Rattle.std.proofs.Common.{◌≡◌, ℕ, ◌+◌, ◌≤◌, ltb, List, drop, refl, sym, arith, inl, inr, add-one, drop-cons, true, false}
use Rattle.std.specs.Prelude.{Option, Some, None, slice_get}
use Rattle.std.proofs.lemmas.Bool.{cases_Bool, ltb-true, ltb-false, lt-ltb}
use Rattle.std.proofs.lemmas.Option.{slice_get_within, get_or_from_slice_get}
use Rattle.sym_base.specs.Greatest.{unless_greater, first_of_greatest}

module _ (weight : ℕ → ℕ) where
  -- the choice of one and the choice among others is that of the heavier of the first two and the rest
  pub chosen_on : (b y c : ℕ) (later : Option ℕ) → Some c ≡ unless_greater weight b (Some y)
      → unless_greater weight b (unless_greater weight y later) ≡ unless_greater weight c later
  chosen_on b y c None is = sym is
  chosen_on b y c (Some z) is =
      elim (cases_Bool (ltb (weight b) (weight y))) [
        | inl above ↦
            let some : Some c ≡ Some y = rw above at is in
            let same : c ≡ y = cc in
            elim (cases_Bool (ltb (weight y) (weight z))) [
              | inl higher ↦
                  let over : ltb (weight b) (weight z)
                  ≡ true = lt-ltb (weight b) (weight z)
                  (omega (arith, ltb-true (weight b) (weight y) above, ltb-true (weight y) (weight z) higher)) in
                  rw (same, higher, over) refl
              | inr lower ↦ rw (same, lower, above) refl
            ]
        | inr below ↦
            let some : Some c ≡ Some b = rw below at is in
            let same : c ≡ b = cc in
            elim (cases_Bool (ltb (weight y) (weight z))) [
              | inl higher ↦ rw (same, higher) refl
              | inr lower ↦
                  let under : ltb (weight b) (weight z)
                  ≡ false = ge-ltb (weight b) (weight z)
                  (omega (arith, ltb-false (weight b) (weight y) below, ltb-false (weight y) (weight z) lower)) in
                  rw (same, lower, below, under) refl
            ]
      ]
    where
      ge-ltb : (m n : ℕ) → n ≤ m → ltb m n ≡ false
      ge-ltb m n high = elim (cases_Bool (ltb m n)) [ inl low ↦ absurd (omega (arith, ltb-true m n low)) | inr not ↦ not ]

  -- the choice among a list from a place on, with the element there
  pub chosen_at : (list : List ℕ) (k y : ℕ) → slice_get list k ≡ Some y
      → first_of_greatest weight (drop k list) ≡ unless_greater weight y (first_of_greatest weight (drop (k + 1) list))
  chosen_at list k y at =
      let inside = slice_get_within list k y at in
      rw (add-one, drop-cons list k y, get_or_from_slice_get list k y y at) refl

  -- what holds of both holds of the heavier
  pub chosen_keeps : (P : ℕ → Type 0) (b y c : ℕ) → Some c ≡ unless_greater weight b (Some y) → P b → P y → P c
  chosen_keeps P b y c is one other =
      elim (cases_Bool (ltb (weight b) (weight y))) [
        | inl above ↦ let some : Some c ≡ Some y = rw above at is in let same : c ≡ y = cc in rw same other
        | inr below ↦ let some : Some c ≡ Some b = rw below at is in let same : c ≡ b = cc in rw same one
      ]
