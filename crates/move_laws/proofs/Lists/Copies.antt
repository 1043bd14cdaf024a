-- Lists of one item so many times.
use Rattle.std.proofs.Common.{◌≡◌, ℕ, suc, zero, get_or, replicate, refl}

-- what past the end reads as the item is it at each index
pub copy_at : {A : Type 0} (x : A) (n i : ℕ) → get_or (replicate n x) i x ≡ x
copy_at x zero i = refl
copy_at x (suc n) zero = refl
copy_at x (suc n) (suc i) = copy_at x n i
