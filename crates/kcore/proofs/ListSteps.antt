-- One item more of a list.
use Rattle.std.proofs.Common.{◌≡◌, ℕ, suc, zero, ◌+◌, List, [], ◌∷◌, ◌++◌, take, get_or, ap, add-one, Option, Some, None}
use Rattle.std.specs.Prelude.{slice_get}

pub slice_get_row : {A : Type 0} (xs : List (Option A)) (i : ℕ) (x : A) → get_or xs i None ≡ Some x → slice_get xs i ≡ Some (Some x)
slice_get_row [] i x h = cc
slice_get_row (y ∷ ys) zero x h = ap Some h
slice_get_row (y ∷ ys) (suc i) x h = slice_get_row ys i x h

take_get_suc : {A : Type 0} (xs : List A) (i : ℕ) (x : A) → slice_get xs i ≡ Some x → take (suc i) xs ≡ take i xs ++ x ∷ []
take_get_suc [] i x h = cc
take_get_suc (y ∷ ys) zero x h = cc
take_get_suc (y ∷ ys) (suc i) x h = ap (λ l. y ∷ l) (take_get_suc ys i x h)

pub take_get : {A : Type 0} (xs : List A) (i : ℕ) (x : A) → slice_get xs i ≡ Some x → take (i + 1) xs ≡ take i xs ++ x ∷ []
take_get xs i x h = rw add-one (take_get_suc xs i x h)
