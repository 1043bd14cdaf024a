-- Reading a text line by line, up to the first bad line.
use Rattle.std.specs.Prelude.{ℕ, suc, Bool, true, false, List, [], ◌∷◌, Option, Some, None, Result, Ok, Err}
use Rattle.script_read.specs.Reasons.{first_reason, after_text}
use Rattle.script_read.specs.declared.reason.Reason.{Reason}
use Rattle.script_read.specs.declared.reason.Reason.TheVariants as reason
use Rattle.script_types.specs.Context.{start, is_ended}
use Rattle.script_types.specs.declared.context.Context.{Context}
use Rattle.script_types.specs.Names.{Declared, file_declares}
use Rattle.script_types.specs.SourceText.{text_lines}

-- at a line: its number and its reason where it is bad, else what is read on
abbrev pub go_on : ℕ → Option Reason → Result Context (ℕ × Reason) → Result Context (ℕ × Reason)
go_on number None next = next
go_on number (Some why) next = Err (number, why)

-- behind the last line: `end` was there, or its line is missing
abbrev pub at_end : Context → ℕ → Bool → Result Context (ℕ × Reason)
at_end c number true = Ok c
at_end c number false = Err (number, reason.End)

-- the lines of a text from this number on: what they make, or the first bad line and its reason
abbrev pub read_from : List Declared → Context → ℕ → List (List ℕ) → Result Context (ℕ × Reason)
read_from file c number [] = at_end c number (is_ended c)
read_from file c number (text ∷ texts) = go_on number (first_reason file c text) (read_from file (after_text c text) (suc number) texts)

-- the whole text
unfoldable pub read_text : List ℕ → Result Context (ℕ × Reason)
read_text text = read_from (file_declares (text_lines text)) start 1 (text_lines text)
