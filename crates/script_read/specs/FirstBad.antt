-- The first bad line of a text, and its reason.
use Rattle.std.specs.List.{AllByRecursion}
use Rattle.std.specs.Prelude.{◌≡◌, ◌⊎◌, ℕ, suc, false, IsTrue, IsFalse, List, [], ◌∷◌, ◌++◌, length}
use Rattle.script_read.specs.Reasons.{has, reasons, after_text}
use Rattle.script_read.specs.declared.reason.Reason.{Reason}
use Rattle.script_read.specs.declared.reason.Reason.TheVariants as reason
use Rattle.script_types.specs.Context.{start, is_ended}
use Rattle.script_types.specs.declared.context.Context.{Context}
use Rattle.script_types.specs.Names.{Declared, file_declares}
use Rattle.script_types.specs.SourceText.{text_lines}
use Rattle.script_types.specs.declared.script.Script.{Script}

-- a line has none of these reasons
abbrev pub HasNone : List Reason → List Declared → Context → List ℕ → Type 0
HasNone others file c text = AllByRecursion (λ r. has r file c text ≡ false) others

-- no line has a reason, and the lines make this
abbrev pub Make : List Declared → Context → List (List ℕ) → Context → Type 0
Make file c [] made = made ≡ c
Make file c (text ∷ texts) made = HasNone reasons file c text × Make file (after_text c text) texts made

-- a line has the reason, and none that is tried before it
pub record IsFirstReason (file : List Declared) (c : Context) (text : List ℕ) (why : Reason) : Type 0 where
  pub before : List Reason
  pub behind : List Reason
  pub order : reasons ≡ before ++ why ∷ behind
  pub none : HasNone before file c text
  pub has : IsTrue (has why file c text)

-- the lines before a line are good, and the line has the reason
pub record IsBadLine (file : List Declared) (c : Context) (texts : List (List ℕ)) (number : ℕ) (why : Reason) : Type 0 where
  pub before : List (List ℕ)
  pub text : List ℕ
  pub behind : List (List ℕ)
  pub made : Context
  pub place : texts ≡ before ++ text ∷ behind
  pub count : number ≡ length before
  pub good : Make file c before made
  pub bad : IsFirstReason file made text why

-- each line is good, and the last line is missing
pub record IsUnended (file : List Declared) (c : Context) (texts : List (List ℕ)) (number : ℕ) (why : Reason) : Type 0 where
  pub made : Context
  pub good : Make file c texts made
  pub unended : IsFalse (is_ended made)
  pub count : number ≡ length texts
  pub is_end : why ≡ reason.End

-- The line of this number is the first bad one of the bytes. Lines are numbered from 1, and a last line that is
-- missing has the number behind the last.
pub record IsFirstBad (bytes : List ℕ) (number : ℕ) (why : Reason) : Type 0 where
  pub place : ℕ
  pub is : number ≡ suc place
  pub bad : IsBadLine (file_declares (text_lines bytes)) start (text_lines bytes) place why
      ⊎ IsUnended (file_declares (text_lines bytes)) start (text_lines bytes) place why

-- no line of the bytes is bad, and they make this script
pub record IsRead (bytes : List ℕ) (script : Script) : Type 0 where
  pub made : Context
  pub good : Make (file_declares (text_lines bytes)) start (text_lines bytes) made
  pub ended : IsTrue (is_ended made)
  pub same : script ≡ made.script
