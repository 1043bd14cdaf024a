-- Which texts are those of a history of callers who share the kernel, and which line of another text is the first bad one.
use Rattle.std.specs.Prelude.{◌≡◌, ℕ, ◌<◌, ◌≤◌, true, List, Some, length}
use Rattle.entry_log.specs.HistoryText.{history_text}
use Rattle.entry_log.specs.declared.entry.Entry.{Entry}
use Rattle.machine.specs.FinalRows.{final_rows}
use Rattle.machine.specs.History.{after_in, IsShared}
use Rattle.script_types.specs.declared.script.Script.{Script}
use Rattle.history_check.specs.FirstLines.{Begins, first_lines}

-- the text of such a history, and of the objects that are left after it
abbrev pub shared_text : Script → List Entry → List ℕ
shared_text script history = history_text history (final_rows (after_in true script history))

-- a history of callers who share the kernel, of at most 131,072 entries
pub record IsInReach (script : Script) (history : List Entry) : Type 0 where
  pub shared : IsShared script history
  pub few : length history ≤ 131072

-- the text is that of this history
pub record IsTextOf (script : Script) (history : List Entry) (text : List ℕ) : Type 0 where
  pub reach : IsInReach script history
  pub same : text ≡ shared_text script history

-- the text is that of a history
pub record Checks (script : Script) (text : List ℕ) : Type 0 where
  pub history : List Entry
  pub is : IsTextOf script history text

-- so many lines of a text have their line feeds, and the text of a history begins with them
pub record GoesOn (script : Script) (text : List ℕ) (lines : ℕ) : Type 0 where
  pub front : List ℕ
  pub are : first_lines lines text ≡ Some front
  pub history : List Entry
  pub reach : IsInReach script history
  pub begins : Begins (shared_text script history) front

-- the first line, from 1, with which the text of no history goes on: also one that lacks its line feed or isn't there
pub record IsFirstBadLine (script : Script) (text : List ℕ) (line : ℕ) : Type 0 where
  pub before : (lines : ℕ) → lines < line → GoesOn script text lines
  pub bad : ¬ GoesOn script text line
