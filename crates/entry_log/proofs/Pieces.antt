-- A text of joined pieces is cut again where it was joined.
use Rattle.entry_log.specs.Joined.{joined, preceded}
use Rattle.entry_log.proofs.Bytes.{both, free, none_of_free}
use Rattle.std.proofs.Common.{◌≡◌, ◌<◌, ℕ, true, List, [], ◌∷◌, ◌++◌, length, refl, append-nil, nat_eq, eq-eqb, arith}
use Rattle.std.proofs.lemmas.List.Splits.{slice_split_none, slice_split_at}
use Rattle.std.specs.List.{list_all, slice_split}

-- the pieces between the bytes c of a text
abbrev pub pieces : ℕ → List ℕ → List (List ℕ)
pieces c text = slice_split (λ b. nat_eq b c) text

pub pieces_one : (c : ℕ) (x : List ℕ) → free c x ≡ true → pieces c x ≡ x ∷ []
pieces_one c x h = slice_split_none (λ b. nat_eq b c) x (none_of_free c x h)

pub pieces_first : (c : ℕ) (x t : List ℕ) → free c x ≡ true → pieces c (x ++ c ∷ t) ≡ x ∷ pieces c t
pieces_first c x t h = slice_split_at (λ b. nat_eq b c) x c t (none_of_free c x h) (eq-eqb c c refl)

pieces_more : (c : ℕ) (x : List ℕ) (xs : List (List ℕ)) → free c x ≡ true → list_all (free c) xs ≡ true → pieces c (x ++ preceded c xs) ≡ x ∷ xs
unfolding preceded
pieces_more c x [] h all = rw append-nil (pieces_one c x h)
pieces_more c x (y ∷ ys) h all =
    let k = both (free c y) (list_all (free c) ys) all in
    rw (pieces_first c x (y ++ preceded c ys) h, pieces_more c y ys k.0 k.1) refl

pub pieces_joined : (c : ℕ) (xs : List (List ℕ)) → 0 < length xs → list_all (free c) xs ≡ true → pieces c (joined c xs) ≡ xs
unfolding joined
pieces_joined c [] some all = absurd (omega arith)
pieces_joined c (x ∷ xs) some all = let k = both (free c x) (list_all (free c) xs) all in pieces_more c x xs k.0 k.1
