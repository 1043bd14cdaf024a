-- The call that runs next, by the weights of the nodes and by the priorities of the calls.
use Rattle.std.proofs.Common.{◌≡◌, ℕ, zero, suc, List, [], ◌∷◌, ◌++◌, get_or, replicate, refl, ap, ◌∙◌}
use Rattle.std.specs.Prelude.{Option, Some, None}
use Rattle.sym_base.specs.Greatest.{unless_greater, first_of_greatest}

-- weights of 0 at the end change no weight
pub padded : (xs : List ℕ) (n k : ℕ) → get_or (xs ++ replicate n 0) k 0 ≡ get_or xs k 0
padded (x ∷ xs) n zero = refl
padded (x ∷ xs) n (suc k) = padded xs n k
padded [] n k = none n k
  where
    none : (n k : ℕ) → get_or (replicate {A = ℕ} n 0) k 0 ≡ 0
    none zero k = refl
    none (suc n) zero = refl
    none (suc n) (suc k) = none n k

-- two weights that are the same of each choose the same
unless_same : (f g : ℕ → ℕ) → ((x : ℕ) → f x ≡ g x) → (x : ℕ) (later : Option ℕ) → unless_greater f x later ≡ unless_greater g x later
unless_same f g same x None = refl
unless_same f g same x (Some y) = rw (same x, same y) refl

pub greatest_same : (f g : ℕ → ℕ) → ((x : ℕ) → f x ≡ g x) → (xs : List ℕ) → first_of_greatest f xs ≡ first_of_greatest g xs
greatest_same f g same [] = refl
greatest_same f g same (x ∷ xs) =
    ap (unless_greater f x) (greatest_same f g same xs) ∙ unless_same f g same x (first_of_greatest g xs)
