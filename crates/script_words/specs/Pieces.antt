-- Pieces of a text, as a contract sees them.
use Rattle.std.specs.Borrow.{Bor}
use Rattle.std.specs.Prelude.{ℕ, List, [], ◌∷◌, map, if◌then◌else◌, Option, Some, None}
use Rattle.script_types.specs.SourceText.{is_empty}

-- the bytes of each piece
abbrev pub pieces : List (Bor (List ℕ)) → List (List ℕ)
pieces borrowed = map (λ piece. piece.now) borrowed

-- a word, where it isn't empty
abbrev pub one_word : List ℕ → List (List ℕ)
one_word word = if is_empty word then [] else word ∷ []

-- three pieces and no more
abbrev pub three_of : List (List ℕ) → Option (List ℕ × List ℕ × List ℕ)
three_of (one ∷ two ∷ three ∷ []) = Some (one, two, three)
three_of _ = None
