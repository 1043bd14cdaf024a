-- Sums over the numbers below one, and a list that falls apart by such a number.
use Rattle.std.proofs.Common.{◌≡◌, ℕ, zero, suc, ◌+◌, ◌*◌, ◌<◌, ◌≤◌, List, [], ◌∷◌, length, get_or, arith, refl}
use Rattle.std.specs.Prelude.{Contains}
use Rattle.machine.specs.References.{total}
use Rattle.move_laws.proofs.Lists.Contents.{contains_behind, contains_first}

-- the sum of a number for each one below n
abbrev pub below : ℕ → (ℕ → ℕ) → ℕ
below zero F = 0
below (suc n) F = F 0 + below n (λ k. F (suc k))

-- of two numbers for each
pub below-both : (n : ℕ) (F G : ℕ → ℕ) → below n (λ k. F k + G k) ≡ below n F + below n G
below-both zero F G = omega arith
below-both (suc n) F G = let a = below-both n (λ k. F (suc k)) (λ k. G (suc k)) in omega arith

pub below-zero : (n : ℕ) (F : ℕ → ℕ) → ((k : ℕ) → F k ≡ 0) → below n F ≡ 0
below-zero zero F none = omega arith
below-zero (suc n) F none = let a = none 0 in let b = below-zero n (λ k. F (suc k)) (λ k. none (suc k)) in omega arith

-- one of them is at most the sum
pub below_at_least : (n : ℕ) (F : ℕ → ℕ) (k : ℕ) → k < n → F k ≤ below n F
below_at_least zero F k inside = absurd (omega arith)
below_at_least (suc n) F zero inside = omega arith
below_at_least (suc n) F (suc k) inside = let a = below_at_least n (λ j. F (suc j)) k (omega arith) in omega arith

-- where each is at most c, the sum is at most c for each
pub below_at_most : (n : ℕ) (F : ℕ → ℕ) (c : ℕ) → ((k : ℕ) → F k ≤ c) → below n F ≤ c * n
below_at_most zero F c few = omega arith
below_at_most (suc n) F c few = let a = few 0 in let b = below_at_most n (λ k. F (suc k)) c (λ k. few (suc k)) in omega arith

-- a number for each item of a list, by places
pub below_rows : {A : Type 0} (c : ℕ) (q : A → ℕ) (F : ℕ → ℕ) (xs : List A) (d : A)
    → ((k : ℕ) → F k ≤ c * q (get_or xs k d)) → below (length xs) F ≤ c * total q xs
below_rows c q F [] d few = omega arith
below_rows c q F (x ∷ xs) d few = let a = few 0 in let b = below_rows c q (λ k. F (suc k)) xs d (λ k. few (suc k)) in omega arith

-- A list whose items fall apart by a number below n: the sum over all is at most what the parts make together.
pub parted : {A : Type 0} (f : A → ℕ) (F : ℕ → A → ℕ) (n : ℕ) (xs : List A)
    → ((x : A) → Contains xs x → f x ≤ below n (λ k. F k x)) → total f xs ≤ below n (λ k. total (F k) xs)
parted f F n [] each = let a = below-zero n (λ k. total (F k) []) (λ k. refl) in omega arith
parted f F n (x ∷ xs) each =
    let a = each x (contains_first xs x) in
    let b = parted f F n xs (λ y there. each y (contains_behind x xs y there)) in
    let c = below-both n (λ k. F k x) (λ k. total (F k) xs) in omega arith
