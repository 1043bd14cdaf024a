-- What checking an input comes to. Its bytes, and those that were written, are named where they are told.
use Rattle.std.specs.Prelude.{◌≡◌, ℕ, ◌<◌, ◌≤◌, ◌⊎◌, true, List, [], ◌∷◌, ◌++◌, Option, IfSome, IsSomeAnd, codes, decimal, length}
use Rattle.edge_io.specs.Written.{Wrote, WrotePrefix}
use Rattle.entry_log.specs.declared.entry.Entry.{Entry}
use Rattle.history_check.specs.Checks.{IsTextOf}
use Rattle.history_check.specs.InputParts.{history_part, script_part}
use Rattle.history_check.specs.Legality.{IsAnswer}
use Rattle.history_check.specs.declared.check.Checked.{Checked}
use Rattle.history_check.specs.declared.check.Checked.TheVariants.{Legal, Illegal, NoMemory}
use Rattle.machine_safe.specs.Safe.{IsSafeIn}
use Rattle.script_grammar.specs.Accepted.{IsAccepted}
use Rattle.script_read.specs.FirstBad.{IsFirstBad}
use Rattle.script_read.specs.Refusal.{refusal_text}
use Rattle.script_read.specs.declared.reason.Reason.{Reason}
use Rattle.script_types.specs.declared.script.Script.{Script}

-- at most 16,777,216 bytes, the script's part of which is accepted as the script
pub record IsCheckInput (bytes : List ℕ) (script : Script) : Type 0 where
  pub few : length bytes ≤ 16777216
  pub accepted : IsAccepted (script_part bytes) script

-- at most 16,777,216 bytes, and this is the first bad line of the script's part and its reason
pub record IsBadCheckInput (bytes : List ℕ) (line : ℕ) (why : Reason) : Type 0 where
  pub few : length bytes ≤ 16777216
  pub bad : IsFirstBad (script_part bytes) line why

-- more bytes than a check reads
abbrev pub IsLargeCheckInput : List ℕ → Type 0
IsLargeCheckInput bytes = 16777216 < length bytes

-- the script's part is accepted as this script, and of the history behind it this is the answer
pub record IsCheckedAs (bytes : List ℕ) (script : Script) (checked : Checked) : Type 0 where
  pub input : IsCheckInput bytes script
  pub answer : IsAnswer script (history_part bytes) checked

-- the one line that is written of an answer, with its line feed, which is 10
abbrev pub verdict_text : Checked → List ℕ
verdict_text (Legal entries) = codes "legal " ++ decimal entries ++ 10 ∷ []
verdict_text (Illegal line) = codes "illegal " ++ decimal line ++ 10 ∷ []
verdict_text NoMemory = []

-- the input is a script and a history of which this is the answer, and its line was written; the history whose text it is is safe
pub record WroteVerdict (checked : Checked) (input old new : Option (List ℕ)) : Type 0 where
  pub script : Script
  pub is : IfSome input (λ bytes. IsCheckedAs bytes script checked)
  pub wrote : Wrote old new (verdict_text checked)
  pub safe : (history : List Entry) → IsSomeAnd input (λ bytes. IsTextOf script history (history_part bytes)) → IsSafeIn true script history

-- a prefix of the line of an answer to this history was written
pub record WroteAnswerFront (script : Script) (text : List ℕ) (old new : Option (List ℕ)) : Type 0 where
  pub checked : Checked
  pub answer : IsAnswer script text checked
  pub wrote : WrotePrefix old new (verdict_text checked)

-- this is the first bad line of the script's part with its reason, and the line that names both was written
pub record WroteCheckRefusal (line : ℕ) (why : Reason) (input old new : Option (List ℕ)) : Type 0 where
  pub bad : IfSome input (λ bytes. IsBadCheckInput bytes line why)
  pub wrote : Wrote old new (refusal_text line why)

-- a prefix of the line that the input calls for was written, and nothing else
pub record IsVerdictText (input : Option (List ℕ)) (text : List ℕ) : Type 0 where
  pub script : Script
  pub checked : Checked
  pub is : IfSome input (λ bytes. IsCheckedAs bytes script checked)
  pub same : text ≡ verdict_text checked

pub record IsCheckRefusalText (input : Option (List ℕ)) (text : List ℕ) : Type 0 where
  pub line : ℕ
  pub why : Reason
  pub bad : IfSome input (λ bytes. IsBadCheckInput bytes line why)
  pub same : text ≡ refusal_text line why

pub record WroteVerdictFront (input old new : Option (List ℕ)) : Type 0 where
  pub text : List ℕ
  pub called_for : IsVerdictText input text ⊎ IsCheckRefusalText input text
  pub wrote : WrotePrefix old new text
