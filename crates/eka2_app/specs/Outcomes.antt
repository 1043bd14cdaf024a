-- What a command did, by the status that it ended with. The bytes of the input, and those that were written, are named
-- where they are told.
use Rattle.std.specs.Prelude.{◌≡◌, ℕ, ◌⊎◌, List, Option, IsSomeAnd}
use Rattle.edge_io.specs.Written.{Wrote, WrotePrefix}
use Rattle.eka2_app.specs.declared.status.Status.{Status}
use Rattle.eka2_app.specs.declared.status.Status.TheVariants as status
use Rattle.history_check.specs.declared.check.Checked.TheVariants as checked
use Rattle.runner.specs.Checking.{IsBadCheckInput, IsCheckedAs, IsLargeCheckInput, WroteCheckRefusal, WroteVerdict, WroteVerdictFront}
use Rattle.runner.specs.Inputs.{IsAtEnd, IsInput, IsBadInput, IsLargeInput}
use Rattle.runner.specs.Outputs.{WroteRun, WroteRefusal, WroteFront, WroteShared, WroteSharedFront}
use Rattle.script_read.specs.declared.reason.Reason.{Reason}
use Rattle.script_types.specs.declared.script.Script.{Script}

-- with some number of entries, some line, and some line and reason
pub record WroteLegal (input old new : Option (List ℕ)) : Type 0 where
  pub entries : ℕ
  pub verdict : WroteVerdict (checked.Legal entries) input old new

pub record WroteIllegal (input old new : Option (List ℕ)) : Type 0 where
  pub line : ℕ
  pub verdict : WroteVerdict (checked.Illegal line) input old new

pub record WroteCheckRefused (input old new : Option (List ℕ)) : Type 0 where
  pub line : ℕ
  pub why : Reason
  pub refusal : WroteCheckRefusal line why input old new

-- A command that reads a script, and writes a text of it. What it wrote if it did all, and what if a write failed, are given. Before it so
-- much of the input was left, and so much written, and afterwards so much; and no read failed, and no write, where these hold.
pub record Ran (whole part : Type 0) (input left old new : Option (List ℕ)) (reads writes : Type 0) (ended : Status) : Type 0 where
  -- Done: the whole input is accepted as a script, and its text was written
  pub done : ended ≡ status.Done → whole
  pub at_end : ended ≡ status.Done → IsAtEnd left
  -- Refused: the whole input has a first bad line, and the line that names it and its reason was written
  pub refused : ended ≡ status.Refused → WroteRefusal input old new
  pub refused_at_end : ended ≡ status.Refused → IsAtEnd left
  -- WriteFault: a prefix of the text that the input calls for was written
  pub front : ended ≡ status.WriteFault → part
  -- completeness: where nothing failed, the input alone decides, but for want of memory
  pub accepted : (script : Script) → IsSomeAnd input (λ bytes. IsInput bytes script) → reads → writes → (ended ≡ status.Done) ⊎ (ended ≡ status.NoMemory)
  pub bad : (line : ℕ) → (why : Reason) → IsSomeAnd input (λ bytes. IsBadInput bytes line why) → reads → writes
      → (ended ≡ status.Refused) ⊎ (ended ≡ status.NoMemory)
  pub too_large : IsSomeAnd input IsLargeInput → reads → (ended ≡ status.TooLarge) ⊎ (ended ≡ status.NoMemory)

-- the text is a function of the script
abbrev pub RanScript : (Script → List ℕ) → Option (List ℕ) → Option (List ℕ) → Option (List ℕ) → Option (List ℕ) → Type 0 → Type 0 → Status → Type 0
RanScript text_of input left old new reads writes ended =
    Ran (WroteRun text_of input old new) (WroteFront text_of input old new) input left old new reads writes ended

-- the text is that of some run by callers who share the kernel
abbrev pub RanShared : Option (List ℕ) → Option (List ℕ) → Option (List ℕ) → Option (List ℕ) → Type 0 → Type 0 → Status → Type 0
RanShared input left old new reads writes ended = Ran (WroteShared input old new) (WroteSharedFront input old new) input left old new reads writes ended

-- A command that reads nothing, and writes this text.
pub record WroteText (text : List ℕ) (old new : Option (List ℕ)) (writes : Type 0) (ended : Status) : Type 0 where
  -- the whole text was written, or a prefix of it, or nothing, and there is no other end
  pub faults : (ended ≡ status.Done) ⊎ (ended ≡ status.WriteFault) ⊎ (ended ≡ status.NoMemory)
  pub done : ended ≡ status.Done → Wrote old new text
  pub front : ended ≡ status.WriteFault → WrotePrefix old new text
  -- completeness: where no write failed, it was written, but for want of memory
  pub complete : writes → (ended ≡ status.Done) ⊎ (ended ≡ status.NoMemory)

-- The command that reads a script and a history behind it, and writes whether that is legal.
pub record CheckedHistory (input left old new : Option (List ℕ)) (reads writes : Type 0) (ended : Status) : Type 0 where
  -- Done: the history is legal, and the line that tells how many entries it has was written
  pub done : ended ≡ status.Done → WroteLegal input old new
  -- Illegal: it isn't, and the line that names its first bad line was written
  pub illegal : ended ≡ status.Illegal → WroteIllegal input old new
  -- Refused: the script's part has a first bad line, and the line that names it and its reason was written
  pub refused : ended ≡ status.Refused → WroteCheckRefused input old new
  -- after these the whole input was read
  pub at_end : ended ≡ status.Done → IsAtEnd left
  pub illegal_at_end : ended ≡ status.Illegal → IsAtEnd left
  pub refused_at_end : ended ≡ status.Refused → IsAtEnd left
  -- WriteFault: a prefix of the line that the input calls for was written
  pub front : ended ≡ status.WriteFault → WroteVerdictFront input old new
  -- completeness: if nothing failed, the input alone decides, but for want of memory
  pub legal : (script : Script) → (entries : ℕ)
      → IsSomeAnd input (λ bytes. IsCheckedAs bytes script (checked.Legal entries)) → reads → writes
      → (ended ≡ status.Done) ⊎ (ended ≡ status.NoMemory)
  pub not_legal : (script : Script) → (line : ℕ)
      → IsSomeAnd input (λ bytes. IsCheckedAs bytes script (checked.Illegal line)) → reads → writes
      → (ended ≡ status.Illegal) ⊎ (ended ≡ status.NoMemory)
  pub bad : (line : ℕ) → (why : Reason) → IsSomeAnd input (λ bytes. IsBadCheckInput bytes line why) → reads → writes
      → (ended ≡ status.Refused) ⊎ (ended ≡ status.NoMemory)
  pub too_large : IsSomeAnd input IsLargeCheckInput → reads → (ended ≡ status.TooLarge) ⊎ (ended ≡ status.NoMemory)
