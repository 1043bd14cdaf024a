-- The number that a word spells.
use Rattle.std.specs.Fmt.{signed_decimal}
use Rattle.std.specs.Int.{w64}
use Rattle.std.specs.Prelude.{◌≡◌, ℕ, ℤ, List, Option, MatchOption, FitsSigned}

-- the word is the decimal text of the number, or that of no number of 64 bits
abbrev pub Spells : List ℕ → Option ℤ → Type 0
Spells word number = MatchOption number ((n : ℤ) → FitsSigned w64 n → signed_decimal n ≡ word → ⊥) (λ n. signed_decimal n ≡ word)
