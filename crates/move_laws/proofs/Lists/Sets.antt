-- What a changed list holds at each index.
use Rattle.std.proofs.Common.{◌≡◌, ◌⊎◌, inl, inr, ℕ, suc, zero, List, [], ◌∷◌, get_or, arith, refl, sym, ap, subst}
use Rattle.std.specs.Prelude.{slice_set}

set_either_suc : {A : Type 0} {i j : ℕ} {a b c : A} → ((j ≡ i) × (a ≡ b)) ⊎ (a ≡ c) → ((suc j ≡ suc i) × (a ≡ b)) ⊎ (a ≡ c)
set_either_suc (inl h) = inl (ap suc h.0, h.1)
set_either_suc (inr h) = inr h

-- after a change at i there is the new item at i, and the old ones elsewhere
pub set_either : {A : Type 0} (xs : List A) (i : ℕ) (y : A) (j : ℕ) (d : A)
    → ((j ≡ i) × (get_or (slice_set xs i y) j d ≡ y)) ⊎ (get_or (slice_set xs i y) j d ≡ get_or xs j d)
set_either [] i y j d = inr refl
set_either (x ∷ xs) zero y zero d = inl (refl, refl)
set_either (x ∷ xs) zero y (suc j) d = inr refl
set_either (x ∷ xs) (suc i) y zero d = inr refl
set_either (x ∷ xs) (suc i) y (suc j) d = set_either_suc (set_either xs i y j d)

-- a property of the items that a change keeps
pub set_keeps : {A : Type 0} (P : A → Type 0) (xs : List A) (i : ℕ) (y : A) (d : A) → P y
    → ((j : ℕ) → P (get_or xs j d)) → (j : ℕ) → P (get_or (slice_set xs i y) j d)
set_keeps P xs i y d py each j = elim (set_either xs i y j d) [ inl h ↦ subst P (sym h.1) py | inr h ↦ subst P (sym h) (each j) ]

-- an item that takes its own place changes nothing
pub set_own : {A : Type 0} (xs : List A) (i : ℕ) (d : A) → slice_set xs i (get_or xs i d) ≡ xs
set_own [] i d = refl
set_own (x ∷ xs) zero d = refl
set_own (x ∷ xs) (suc i) d = ap (◌∷◌ x) (set_own xs i d)

-- where the item of what isn't there takes a place nothing is there
pub set_default : {A : Type 0} (xs : List A) (i j : ℕ) (d : A) → j ≡ i → get_or (slice_set xs i d) j d ≡ d
set_default [] i j d at = refl
set_default (x ∷ xs) zero zero d at = refl
set_default (x ∷ xs) zero (suc j) d at = absurd (omega arith)
set_default (x ∷ xs) (suc i) zero d at = absurd (omega arith)
set_default (x ∷ xs) (suc i) (suc j) d at = set_default xs i j d (omega arith)
