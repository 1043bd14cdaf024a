-- The front of a text, and its lines.
use Rattle.std.specs.List.{list_all}
use Rattle.std.specs.Prelude.{◌≡◌, ℕ, zero, suc, ◌==◌, true, not, if◌then◌else◌, List, [], ◌∷◌, ◌++◌, Option, Some, None, option_map}

-- a text begins with this front
pub record Begins (text front : List ℕ) : Type 0 where
  pub rest : List ℕ
  pub whole : text ≡ front ++ rest

-- the first lines of a text, so many, each with its line feed, which is 10; none if fewer lines have one
abbrev pub first_lines : ℕ → List ℕ → Option (List ℕ)
first_lines zero text = Some []
first_lines (suc n) [] = None
first_lines (suc n) (byte ∷ text) = option_map (λ front. byte ∷ front) (first_lines (if byte == 10 then n else suc n) text)

-- a text is one line, and ends with its line feed
pub record IsLine (line : List ℕ) : Type 0 where
  pub words : List ℕ
  pub same : line ≡ words ++ 10 ∷ []
  pub one : list_all (λ byte. not (byte == 10)) words ≡ true
