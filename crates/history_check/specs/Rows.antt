-- The lines of the objects that are left, the line `end` behind them, and the first of them that a text hasn't.
use Rattle.std.specs.Prelude.{◌≡◌, ℕ, ◌+◌, List, [], ◌∷◌, ◌++◌, ◌⊎◌, codes, length, map}
use Rattle.std.specs.List.{flat_map, AllByRecursion}
use Rattle.entry_log.specs.FinalLine.{final_line}
use Rattle.entry_log.specs.declared.entry.FinalRow.{FinalRow}
use Rattle.machine.specs.FinalRows.{final_rows}
use Rattle.machine.specs.History.{after_in}
use Rattle.plain_machine.specs.PlainView.{PlainView}
use Rattle.history_check.specs.FirstLines.{Begins, IsLine}

-- the lines behind the line `objects`
abbrev pub row_lines : List FinalRow → List (List ℕ)
row_lines rows = map final_line rows ++ codes "end\n" ∷ []

-- those of the objects that a machine has left
abbrev pub lines_left : PlainView → List (List ℕ)
lines_left plain = row_lines (final_rows (after_in plain.shared plain.script plain.history))

-- lines as one text
abbrev pub as_text : List (List ℕ) → List ℕ
as_text lines = flat_map (λ (line : List ℕ). line) lines

-- a text begins with so many of these lines, and doesn't go on with the next
pub record IsBadLine (lines : List (List ℕ)) (text : List ℕ) (good : ℕ) : Type 0 where
  pub before : List (List ℕ)
  pub line : List ℕ
  pub behind : List (List ℕ)
  pub rest : List ℕ
  pub lines_are : lines ≡ before ++ line ∷ behind
  pub count : length before ≡ good
  pub text_is : text ≡ as_text before ++ rest
  pub known : AllByRecursion IsLine before
  pub is : IsLine line
  pub other : ¬ Begins rest line

-- a text begins with all of them, which are so many, and something stands behind
pub record IsBadEnd (lines : List (List ℕ)) (text : List ℕ) (good : ℕ) : Type 0 where
  pub byte : ℕ
  pub rest : List ℕ
  pub count : length lines ≡ good
  pub text_is : text ≡ as_text lines ++ byte ∷ rest
  pub known : AllByRecursion IsLine lines

-- if the first of these lines has this number, that one is the first that a text hasn't, or the line behind them all
pub record IsBadFrom (lines : List (List ℕ)) (text : List ℕ) (first bad : ℕ) : Type 0 where
  pub good : ℕ
  pub number : bad ≡ first + good
  pub found : IsBadLine lines text good ⊎ IsBadEnd lines text good
