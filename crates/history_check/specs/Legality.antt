-- What checking a history answers.
use Rattle.std.specs.Prelude.{◌≡◌, ℕ, ◌+◌, List, length}
use Rattle.entry_log.specs.declared.entry.Entry.{Entry}
use Rattle.script_types.specs.declared.script.Script.{Script}
use Rattle.history_check.specs.declared.check.Checked.{Checked}
use Rattle.history_check.specs.declared.check.Checked.TheVariants.{Legal, Illegal, NoMemory}
use Rattle.history_check.specs.Checks.{Checks, IsTextOf, IsFirstBadLine}
use Rattle.history_check.specs.Rows.{as_text, IsBadFrom}

-- the text is that of a history of so many entries
pub record IsLegalText (script : Script) (text : List ℕ) (entries : ℕ) : Type 0 where
  pub history : List Entry
  pub is : IsTextOf script history text
  pub count : length history ≡ entries

-- the text is that of no history, and this is its first bad line
pub record IsIllegalText (script : Script) (text : List ℕ) (line : ℕ) : Type 0 where
  pub none : ¬ Checks script text
  pub first : IsFirstBadLine script text line

-- what an answer says of the text; want of memory says nothing
abbrev pub IsAnswer : Script → List ℕ → Checked → Type 0
IsAnswer script text (Legal entries) = IsLegalText script text entries
IsAnswer script text (Illegal line) = IsIllegalText script text line
IsAnswer script text NoMemory = Unit {0}

-- what an answer says of the text behind the line `objects`, if these lines are to stand there, behind so many entries
abbrev pub IsEnd : List (List ℕ) → List ℕ → ℕ → Checked → Type 0
IsEnd lines text entries (Legal count) = (count ≡ entries) × (text ≡ as_text lines)
IsEnd lines text entries (Illegal line) = IsBadFrom lines text (entries + 2) line
IsEnd lines text entries NoMemory = ⊥
