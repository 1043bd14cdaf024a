-- The text of a few joined pieces.
use Rattle.entry_log.specs.Joined.{joined, preceded}
use Rattle.std.proofs.Common.{◌≡◌, ℕ, ◌+◌, ◌<◌, List, [], ◌∷◌, ◌++◌, length, map, take, get_or, refl, append_assoc, append-nil}
use Rattle.std.proofs.lemmas.List.{map-append, take_more}

pub joined_two : (byte : ℕ) (a b : List ℕ) → joined byte (a ∷ b ∷ []) ≡ a ++ byte ∷ b
unfolding joined preceded
joined_two byte a b = rw append-nil refl

pub joined_three : (byte : ℕ) (a b c : List ℕ) → joined byte (a ∷ b ∷ c ∷ []) ≡ joined byte (a ∷ b ∷ []) ++ byte ∷ c
unfolding joined preceded
joined_three byte a b c = simp (append-nil, append_assoc)

pub joined_four : (byte : ℕ) (a b c d : List ℕ) → joined byte (a ∷ b ∷ c ∷ d ∷ []) ≡ joined byte (a ∷ b ∷ []) ++ byte ∷ c ++ byte ∷ d
unfolding joined preceded
joined_four byte a b c d = simp (append-nil, append_assoc)

pub preceded-append : (byte : ℕ) (xs ys : List (List ℕ)) → preceded byte (xs ++ ys) ≡ preceded byte xs ++ preceded byte ys
unfolding preceded
preceded-append byte [] ys = refl
preceded-append byte (x ∷ xs) ys = rw (append_assoc, preceded-append byte xs ys) refl

pub preceded_more : {A : Type 0} (byte : ℕ) (text : A → List ℕ) (xs : List A) (i : ℕ) (d : A) → i < length xs
    → preceded byte (map text (take (i + 1) xs)) ≡ preceded byte (map text (take i xs)) ++ byte ∷ text (get_or xs i d)
unfolding preceded
preceded_more byte text xs i d within = rw (take_more xs i d within, map-append, preceded-append, append-nil) refl

pub preceded_one_more : (byte : ℕ) (piece : List ℕ) (pieces : List (List ℕ)) → preceded byte (piece ∷ pieces) ≡ (byte ∷ piece) ++ preceded byte pieces
unfolding preceded
preceded_one_more byte piece pieces = refl

pub preceded_pair : (byte : ℕ) (a b : List ℕ) → preceded byte (a ∷ b ∷ []) ≡ byte ∷ a ++ byte ∷ b
unfolding preceded
preceded_pair byte a b = rw append-nil refl

pub preceded_sums : (byte : ℕ) (xs ys zs : List (List ℕ))
    → preceded byte (xs ++ (ys ++ zs)) ≡ (preceded byte xs ++ preceded byte ys) ++ preceded byte zs
preceded_sums byte xs ys zs = simp (preceded-append, append_assoc)

pub joined_row : (byte : ℕ) (a b c d : List ℕ) (xs : List (List ℕ))
    → joined byte (a ∷ b ∷ c ∷ d ∷ xs) ≡ (a ++ byte ∷ b ++ byte ∷ c ++ byte ∷ d) ++ preceded byte xs
unfolding joined
joined_row byte a b c d xs = simp (preceded_one_more, append_assoc)
