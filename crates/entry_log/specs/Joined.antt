-- Pieces of text with one byte between each and the next.
use Rattle.std.specs.Prelude.{ℕ, List, [], ◌∷◌, ◌++◌}

-- each piece after the byte
unfoldable pub preceded : ℕ → List (List ℕ) → List ℕ
preceded byte [] = []
preceded byte (piece ∷ pieces) = byte ∷ piece ++ preceded byte pieces

-- the first piece, and then each further one after the byte
unfoldable pub joined : ℕ → List (List ℕ) → List ℕ
joined byte [] = []
joined byte (piece ∷ pieces) = piece ++ preceded byte pieces
