-- What is written of an input. Its bytes, and those that were written, are named where they are told. The text of a script
-- is that of its run, in whole or in brief.
use Rattle.std.specs.Prelude.{◌≡◌, ℕ, ◌⊎◌, true, List, Option, IfSome}
use Rattle.edge_io.specs.Written.{Wrote, WrotePrefix}
use Rattle.entry_log.specs.declared.entry.Entry.{Entry}
use Rattle.machine.specs.History.{IsLegal}
use Rattle.machine.specs.Run.{run}
use Rattle.machine.specs.SharedRun.{IsSharedRun}
use Rattle.machine_safe.specs.Safe.{IsSafe, IsSafeIn}
use Rattle.runner.specs.Inputs.{IsInput, IsBadInput}
use Rattle.runner.specs.RunText.{shared_text}
use Rattle.script_read.specs.Refusal.{refusal_text}
use Rattle.script_read.specs.declared.reason.Reason.{Reason}
use Rattle.script_types.specs.declared.script.Script.{Script}

-- the input is accepted as a script, which has this text
pub record IsScriptText (text_of : Script → List ℕ) (input : Option (List ℕ)) (text : List ℕ) : Type 0 where
  pub script : Script
  pub accepted : IfSome input (λ bytes. IsInput bytes script)
  pub same : text ≡ text_of script

-- the text is that of a whole run of a script by callers who share the kernel, whose references, deaths, messages, servers and busy answers are
-- safe
pub record IsSharedTextOf (script : Script) (text : List ℕ) : Type 0 where
  pub history : List Entry
  pub run : IsSharedRun script history
  pub safe : IsSafeIn true script history
  pub same : text ≡ shared_text script history

-- the input is accepted as a script, and the text is such a text of it
pub record IsSharedText (input : Option (List ℕ)) (text : List ℕ) : Type 0 where
  pub script : Script
  pub accepted : IfSome input (λ bytes. IsInput bytes script)
  pub made : IsSharedTextOf script text

-- the input has a first bad line, and the text is the line that names it
pub record IsRefusalText (input : Option (List ℕ)) (text : List ℕ) : Type 0 where
  pub line : ℕ
  pub why : Reason
  pub bad : IfSome input (λ bytes. IsBadInput bytes line why)
  pub same : text ≡ refusal_text line why

-- the input is accepted as a script, and its whole text was written; the history of its run is legal, and its
-- references, deaths, messages, servers and busy answers are safe
pub record WroteRun (text_of : Script → List ℕ) (input old new : Option (List ℕ)) : Type 0 where
  pub script : Script
  pub accepted : IfSome input (λ bytes. IsInput bytes script)
  pub wrote : Wrote old new (text_of script)
  pub legal : IsLegal script (run script)
  pub safe : IsSafe script (run script)

-- a text that is called for was written, and nothing else
pub record WroteWhole (IsCalledFor : List ℕ → Type 0) (old new : Option (List ℕ)) : Type 0 where
  pub text : List ℕ
  pub called_for : IsCalledFor text
  pub wrote : Wrote old new text

-- the text of a run of the input's script by callers who share the kernel
abbrev pub WroteShared : Option (List ℕ) → Option (List ℕ) → Option (List ℕ) → Type 0
WroteShared input old new = WroteWhole (IsSharedText input) old new

-- this is the input's first bad line with its reason, and the line that names both was written, and nothing
-- else
pub record WroteRefusalOf (line : ℕ) (why : Reason) (input old new : Option (List ℕ)) : Type 0 where
  pub bad : IfSome input (λ bytes. IsBadInput bytes line why)
  pub wrote : Wrote old new (refusal_text line why)

-- so it is with some line and some reason
pub record WroteRefusal (input old new : Option (List ℕ)) : Type 0 where
  pub line : ℕ
  pub why : Reason
  pub refusal : WroteRefusalOf line why input old new

-- a prefix of a text that is called for was written, and nothing else
pub record WrotePart (IsCalledFor : List ℕ → Type 0) (old new : Option (List ℕ)) : Type 0 where
  pub text : List ℕ
  pub called_for : IsCalledFor text
  pub wrote : WrotePrefix old new text

-- the text of the input's script, or of its refusal
abbrev pub WroteFront : (Script → List ℕ) → Option (List ℕ) → Option (List ℕ) → Option (List ℕ) → Type 0
WroteFront text_of input old new = WrotePart (λ text. IsScriptText text_of input text ⊎ IsRefusalText input text) old new

-- the text of a run of it by callers who share the kernel, or of its refusal
abbrev pub WroteSharedFront : Option (List ℕ) → Option (List ℕ) → Option (List ℕ) → Type 0
WroteSharedFront input old new = WrotePart (λ text. IsSharedText input text ⊎ IsRefusalText input text) old new

-- the text of its refusal
abbrev pub WroteRefusalFront : Option (List ℕ) → Option (List ℕ) → Option (List ℕ) → Type 0
WroteRefusalFront input old new = WrotePart (IsRefusalText input) old new
