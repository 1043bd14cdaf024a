-- What a source has left.
use Rattle.std.specs.Prelude.{ℕ, List, ◌++◌, Option, None, Some}

-- these bytes, and then the bytes that are left, where they are told
abbrev pub preceded : List ℕ → Option (List ℕ) → Option (List ℕ)
preceded bytes None = None
preceded bytes (Some left) = Some (bytes ++ left)
