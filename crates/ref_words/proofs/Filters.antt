-- Filters of filters.
use Rattle.std.proofs.Common.{◌≡◌, ◌≤◌, Bool, true, false, List, [], ◌∷◌, length, refl, ap, arith, inl, inr}
use Rattle.std.specs.Prelude.{filter}
use Rattle.std.proofs.lemmas.Bool.{cases_Bool}

-- nothing passes both tests
pub filter_none : {X : Type 0} (p q : X → Bool) → ((x : X) → p x ≡ true → q x ≡ false) → (xs : List X) → filter p (filter q xs) ≡ []
filter_none p q apart [] = refl
filter_none p q apart (x ∷ xs) =
    elim (cases_Bool (q x)) [
      | inl kept ↦ elim (cases_Bool (p x)) [
        | inl both ↦ let no : q x ≡ false = apart x both in absurd (cc)
        | inr other ↦ rw (kept, other) (filter_none p q apart xs)
      ]
      | inr left ↦ rw left (filter_none p q apart xs)
    ]

-- what passes the one test passes the other
pub filter_twice : {X : Type 0} (p q : X → Bool) → ((x : X) → p x ≡ true → q x ≡ true) → (xs : List X) → filter p (filter q xs) ≡ filter p xs
filter_twice p q within [] = refl
filter_twice p q within (x ∷ xs) =
    elim (cases_Bool (p x)) [
      | inl passes ↦ let stays : q x ≡ true = within x passes in rw (stays, passes) (ap (λ ys. x ∷ ys) (filter_twice p q within xs))
      | inr fails ↦ elim (cases_Bool (q x)) [
        | inl kept ↦ rw (kept, fails) (filter_twice p q within xs)
        | inr left ↦ rw (left, fails) (filter_twice p q within xs)
      ]
    ]

-- a filter keeps no more than there is
pub length_filter : {X : Type 0} (p : X → Bool) (xs : List X) → length (filter p xs) ≤ length xs
length_filter p [] = omega arith
length_filter p (x ∷ xs) =
    let rest = length_filter p xs in
    elim (cases_Bool (p x)) [ inl passes ↦ rw passes (omega arith) | inr fails ↦ rw fails (omega arith) ]

-- a filter of fewer keeps no more
pub length_filter_filter : {X : Type 0} (p q : X → Bool) (xs : List X) → length (filter p (filter q xs)) ≤ length (filter p xs)
length_filter_filter p q [] = omega arith
length_filter_filter p q (x ∷ xs) =
    let rest = length_filter_filter p q xs in
    elim (cases_Bool (q x)) [
      | inl kept ↦ elim (cases_Bool (p x)) [
        | inl passes ↦ rw (kept, passes) (omega arith)
        | inr fails ↦ rw (kept, fails) (omega arith)
      ]
      | inr left ↦ elim (cases_Bool (p x)) [
        | inl passes ↦ rw (left, passes) (omega arith)
        | inr fails ↦ rw (left, fails) (omega arith)
      ]
    ]
