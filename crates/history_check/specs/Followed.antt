-- What the first line of a text comes to, where a history goes on with it.
use Rattle.std.specs.Prelude.{◌≡◌, ℕ, ◌+◌, true, List, [], ◌∷◌, ◌++◌, length, Some}
use Rattle.entry_log.specs.EntryLine.{entry_line}
use Rattle.entry_log.specs.IsEntry.{IsStep}
use Rattle.entry_log.specs.declared.entry.Entry.{Entry}
use Rattle.machine.specs.History.{after_in, IsNext, IsShared}
use Rattle.plain_machine.specs.PlainView.{PlainView}
use Rattle.script_types.specs.declared.script.Script.{Script}
use Rattle.history_check.specs.FirstLines.{Begins, first_lines}

-- the machine made one entry more, with whose line the text begins, and this stands behind it
pub record IsFollowed (old new : PlainView) (text rest : List ℕ) : Type 0 where
  pub entry : Entry
  pub history : new.history ≡ old.history ++ entry ∷ []
  pub shared : new.shared ≡ true
  pub legal : IsShared new.script new.history
  pub named : IsStep entry.step
  pub line : text ≡ entry_line entry ++ rest

-- two texts have the same first line
pub record HaveOneFirst (one other : List ℕ) : Type 0 where
  pub line : List ℕ
  pub first : first_lines 1 one ≡ Some line
  pub too : first_lines 1 other ≡ Some line

-- no text that begins with the line of an entry that may stand next has the first line of this text
abbrev pub GoesNowhere : Script → List Entry → List ℕ → Type 0
GoesNowhere script history text =
    (e : Entry) → (more : List ℕ) → IsNext script (after_in true script history) (length history + 1) e → ¬ HaveOneFirst text (entry_line e ++ more)

-- the machine made one entry more, and if the text doesn't begin with its line, no history goes on with the text's first line
pub record IsNextMade (old : PlainView) (text : List ℕ) (new : PlainView) (entry : Entry) : Type 0 where
  pub script : new.script ≡ old.script
  pub history : new.history ≡ old.history ++ entry ∷ []
  pub shared : new.shared ≡ true
  pub legal : IsShared new.script new.history
  pub only : IsStep entry.step → ¬ Begins text (entry_line entry) → GoesNowhere old.script old.history text
