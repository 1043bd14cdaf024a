-- Reading the lines of a text one after another.
use Rattle.std.specs.Prelude.{◌≡◌, ℕ, ◌≤◌, length, List, Option, Some, None, Result, Ok, Err}
use Rattle.script_read.specs.FileNames.{AreKnown}
use Rattle.script_read.specs.Reasons.{first_reason, after_text}
use Rattle.script_read.specs.declared.progress.Progress.{Progress}
use Rattle.script_read.specs.declared.progress.Reading.{Reading}
use Rattle.script_read.specs.declared.progress.Reading.TheVariants as reading
use Rattle.script_read.specs.declared.reason.Reason.{Reason}
use Rattle.script_types.specs.Names.{Declared}
use Rattle.script_types.specs.Stands.{all_instrs}
use Rattle.script_types.specs.declared.context.Context.{Context}

-- what reading a text gives, as the definition has it
abbrev pub reading_of : Reading → Result Context (ℕ × Reason)
reading_of (reading.Whole c) = Ok c
reading_of (reading.Bad number why) = Err (number, why)

-- what holds of the lines so far: their processes are within the limit, their instructions are counted, and what the
-- whole text declares is known where it is read
pub record IsSteady (p : Progress) : Type 0 where
  pub processes : length p.context.script.processes ≤ 16
  pub count : p.instructions ≡ all_instrs p.context.script.threads
  pub known : AreKnown p.names

-- one more line was read: it is bad for this reason, or it and the lines so far make this
abbrev pub IsLineRead : List Declared → Context → List ℕ → Option Reason → Context → Type 0
IsLineRead file old text (Some why) new = first_reason file old text ≡ Some why
IsLineRead file old text None new = (first_reason file old text ≡ None) × (new ≡ after_text old text)
