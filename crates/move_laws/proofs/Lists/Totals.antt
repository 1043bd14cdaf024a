-- Sums over rows, and what changing or adding a row does to them.
use Rattle.std.proofs.Common.{◌≡◌, ℕ, suc, zero, ◌+◌, ◌*◌, ◌<◌, ◌≤◌, List, [], ◌∷◌, ◌++◌, length, get_or, arith}
use Rattle.std.proofs.Common.{Option, Some, None, Bool, true, false, inl, inr, ap, map, set, sym, refl, ◌∙◌}
use Rattle.std.proofs.lemmas.Bool.{cases_lt}
use Rattle.std.proofs.lemmas.List.{set_past}
use Rattle.std.specs.Prelude.{drop, filter, if◌then◌else◌, slice_set}
use Rattle.machine.specs.References.{total}

pub total-set : {A : Type 0} (f : A → ℕ) (xs : List A) (i : ℕ) (y d : A) → i < length xs → total f (slice_set xs i y) + f (get_or xs i d) ≡ total f xs + f y
total-set f [] i y d h = absurd (omega arith)
total-set f (x ∷ xs) zero y d h = omega arith
total-set f (x ∷ xs) (suc i) y d h = let r = total-set f xs i y d (omega arith) in omega arith

pub total-append : {A : Type 0} (f : A → ℕ) (xs ys : List A) → total f (xs ++ ys) ≡ total f xs + total f ys
total-append f [] ys = omega arith
total-append f (x ∷ xs) ys = let r = total-append f xs ys in omega arith

pub total-drop : {A : Type 0} (f : A → ℕ) (xs : List A) → total f (drop 1 xs) ≤ total f xs
total-drop f [] = omega arith
total-drop f (x ∷ xs) = omega arith

-- a row's number is at most the sum
pub total_at_least : {A : Type 0} (f : A → ℕ) (xs : List A) (i : ℕ) (d : A) → i < length xs → f (get_or xs i d) ≤ total f xs
total_at_least f [] i d h = absurd (omega arith)
total_at_least f (x ∷ xs) zero d h = omega arith
total_at_least f (x ∷ xs) (suc i) d h = let r = total_at_least f xs i d (omega arith) in omega arith

-- where each row's number is at most c, the sum is at most c for each row
pub total_at_most : {A : Type 0} (f : A → ℕ) (c : ℕ) (xs : List A) (d : A) → ((i : ℕ) → i < length xs → f (get_or xs i d) ≤ c) → total f xs ≤ c * length xs
total_at_most f c [] d h = omega arith
total_at_most f c (x ∷ xs) d h =
    let first : f x ≤ c = h 0 (omega arith) in
    let r = total_at_most f c xs d (λ i k. h (suc i) (omega arith)) in omega arith

-- a number at which a list has something is inside the list
pub inside : {A : Type 0} (xs : List (Option A)) (i : ℕ) (x : A) → get_or xs i None ≡ Some x → i < length xs
inside [] i x h = cc
inside (y ∷ ys) zero x h = omega arith
inside (y ∷ ys) (suc i) x h = let r = inside ys i x h in omega arith

-- another row, made from the old one
pub total-with : {A : Type 0} (f : A → ℕ) (g : A → A) (d : A) (xs : List A) (i : ℕ) → f (g d) ≡ f d
    → total f (slice_set xs i (g (get_or xs i d))) + f (get_or xs i d) ≡ total f xs + f (g (get_or xs i d))
total-with f g d [] i h = omega arith
total-with f g d (x ∷ xs) zero h = omega arith
total-with f g d (x ∷ xs) (suc i) h = let r = total-with f g d xs i h in omega arith

-- a row made from the old one stands where the old one stood
pub get-with : {A : Type 0} (g : A → A) (d : A) (xs : List A) (i : ℕ) → g d ≡ d → get_or (slice_set xs i (g (get_or xs i d))) i d ≡ g (get_or xs i d)
get-with g d [] i h = sym h
get-with g d (x ∷ xs) zero h = refl
get-with g d (x ∷ xs) (suc i) h = get-with g d xs i h

-- so it is wherever, where what isn't there counts for nothing
pub total_any : {A : Type 0} (f : A → ℕ) (xs : List A) (i : ℕ) (d : A) → f d ≡ 0 → f (get_or xs i d) ≤ total f xs
total_any f [] i d none = omega arith
total_any f (x ∷ xs) zero d none = omega arith
total_any f (x ∷ xs) (suc i) d none = let r = total_any f xs i d none in omega arith

-- the sum over a list of several is at most that over all
pub total_within : {A : Type 0} (f : A → ℕ) (xs : List (List A)) (i : ℕ) → total f (get_or xs i []) ≤ total (total f) xs
total_within f [] i = omega arith
total_within f (x ∷ xs) zero = omega arith
total_within f (x ∷ xs) (suc i) = let a = total_within f xs i in omega arith

-- those of a list that pass a test are no more
pub total-filter : {A : Type 0} (f : A → ℕ) (p : A → Bool) (xs : List A) → total f (filter p xs) ≤ total f xs
total-filter f p [] = omega arith
total-filter f p (x ∷ xs) = by (p x) (total-filter f p xs)
  where
    by : (b : Bool) → total f (filter p xs) ≤ total f xs → total f (if b then x ∷ filter p xs else filter p xs) ≤ f x + total f xs
    by true le = omega arith
    by false le = omega arith

pub filtered_each : {A : Type 0} (f : A → ℕ) (p : A → Bool) (xs : List (List A)) → total (total f) (map (filter p) xs) ≤ total (total f) xs
filtered_each f p [] = omega arith
filtered_each f p (x ∷ xs) = let a = total-filter f p x in let b = filtered_each f p xs in omega arith

-- another list at a place
pub total-at : {A : Type 0} (f : A → ℕ) (xs : List (List A)) (i : ℕ) (ys : List A)
    → total f ys ≤ total f (get_or xs i []) → total (total f) (set xs i ys) ≤ total (total f) xs
total-at f xs i ys le = elim (cases_lt i (length xs)) as (λ _. total (total f) (set xs i ys) ≤ total (total f) xs) [
  | inl inside ↦ let a = total-set (total f) xs i ys [] inside in omega arith
  | inr past ↦ let same = set_past xs i ys past in let a = ap (total (total f)) same in omega arith
]

-- numbers that are all 0
pub total-none : {A : Type 0} (f : A → ℕ) (xs : List A) (d : A) → ((j : ℕ) → f (get_or xs j d) ≡ 0) → total f xs ≡ 0
total-none f [] d none = refl
total-none f (x ∷ xs) d none = let first : f x ≡ 0 = none zero in let rest = total-none f xs d (λ j. none (suc j)) in omega arith

-- one number of a list that alone isn't 0
pub total-only : {A : Type 0} (f : A → ℕ) (xs : List A) (i : ℕ) (d : A) → f d ≡ 0
    → ((j : ℕ) → (j ≡ i → ⊥) → f (get_or xs j d) ≡ 0) → total f xs ≡ f (get_or xs i d)
total-only f [] i d none others = sym none
total-only f (x ∷ xs) zero d none others = let rest = total-none f xs d (λ j. others (suc j) (λ e. absurd (omega arith))) in omega arith
total-only f (x ∷ xs) (suc i) d none others =
    let first : f x ≡ 0 = others zero (λ e. absurd (omega arith)) in
    let rest = total-only f xs i d none (λ j apart. others (suc j) (λ e. apart (omega arith))) in omega arith

-- two lists with the same numbers, and with smaller ones
pub total-same : {A : Type 0} (f : A → ℕ) (xs ys : List A) (d : A) → f d ≡ 0 → ((j : ℕ) → f (get_or ys j d) ≡ f (get_or xs j d)) → total f ys ≡ total f xs
total-same f [] ys d none same = total-none f ys d (λ j. same j ∙ none)
total-same f (x ∷ xs) [] d none same = sym (total-none f (x ∷ xs) d (λ j. sym (same j) ∙ none))
total-same f (x ∷ xs) (y ∷ ys) d none same = let first : f y ≡ f x = same 0 in let rest = total-same f xs ys d none (λ j. same (suc j)) in omega arith

pub total-below : {A : Type 0} (f : A → ℕ) (xs ys : List A) (d : A) → f d ≡ 0 → ((j : ℕ) → f (get_or ys j d) ≤ f (get_or xs j d)) → total f ys ≤ total f xs
total-below f xs [] d none le = omega arith
total-below f [] (y ∷ ys) d none le = let first : f y ≤ f d = le 0 in let rest : total f ys ≤ 0 = total-below f [] ys d none (λ j. le (suc j)) in omega arith
total-below f (x ∷ xs) (y ∷ ys) d none le = let first : f y ≤ f x = le 0 in let rest = total-below f xs ys d none (λ j. le (suc j)) in omega arith
