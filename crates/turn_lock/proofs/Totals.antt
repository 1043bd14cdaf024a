-- How totals over a list change.
use Rattle.std.proofs.Common.{◌≡◌, ◌≢◌, ℕ, zero, suc, ◌+◌, ◌≤◌, eqb, List, [], ◌∷◌, ◌++◌, set, sym, refl, ap, ne_eqb, eq-eqb, arith}
use mathlib.Core.Option.{some, some-injective, some-ne-none}
use lib.ListN.{get_elem?}
use Rattle.turn_lock.specs.Weights.{total, one_if}

pub one_if-other : (x y : ℕ) → x ≢ y → one_if (eqb x y) ≡ 0
one_if-other x y n = ap one_if (ne_eqb x y n)

pub one_if-same : (x y : ℕ) → x ≡ y → one_if (eqb x y) ≡ 1
one_if-same x y e = ap one_if (eq-eqb x y e)

module _ {A : Type 0} (f : A → ℕ) where
  pub total_set : (xs : List A) (i : ℕ) (a b : A) → get_elem? xs i ≡ some a → total f (set xs i b) + f a ≡ total f xs + f b
  total_set [] i a b e = absurd (some-ne-none a (sym e))
  total_set (x ∷ xs) zero a b e = let k : f x ≡ f a = ap f (some-injective x a e) in omega arith
  total_set (x ∷ xs) (suc i) a b e = let h = total_set xs i a b e in omega arith

  pub total_append : (xs ys : List A) → total f (xs ++ ys) ≡ total f xs + total f ys
  total_append [] ys = omega arith
  total_append (x ∷ xs) ys = let h = total_append xs ys in omega arith

  pub total_at : (xs : List A) (i : ℕ) (a : A) → get_elem? xs i ≡ some a → f a ≤ total f xs
  total_at [] i a e = absurd (some-ne-none a (sym e))
  total_at (x ∷ xs) zero a e = let k : f x ≡ f a = ap f (some-injective x a e) in omega arith
  total_at (x ∷ xs) (suc i) a e = let h = total_at xs i a e in omega arith

  pub total_two : (xs : List A) (i j : ℕ) (a b : A) → j ≢ i → get_elem? xs i ≡ some a → get_elem? xs j ≡ some b → f a + f b ≤ total f xs
  total_two [] i j a b n e d = absurd (some-ne-none a (sym e))
  total_two (x ∷ xs) zero zero a b n e d = absurd (n refl)
  total_two (x ∷ xs) zero (suc j) a b n e d = let k : f x ≡ f a = ap f (some-injective x a e) in let h = total_at xs j b d in omega arith
  total_two (x ∷ xs) (suc i) zero a b n e d = let k : f x ≡ f b = ap f (some-injective x b d) in let h = total_at xs i a e in omega arith
  total_two (x ∷ xs) (suc i) (suc j) a b n e d = let h = total_two xs i j a b (λ z. n (ap suc z)) e d in omega arith

  pub total_none : (xs : List A) → ((i : ℕ) (a : A) → get_elem? xs i ≡ some a → f a ≡ 0) → total f xs ≡ 0
  total_none [] h = refl
  total_none (x ∷ xs) h = let a = h 0 x refl in let b = total_none xs (λ i. h (suc i)) in omega arith

pub total_le : {A : Type 0} (f g : A → ℕ) → ((a : A) → f a ≤ g a) → (xs : List A) → total f xs ≤ total g xs
total_le f g h [] = omega arith
total_le f g h (x ∷ xs) = let a = h x in let b = total_le f g h xs in omega arith
