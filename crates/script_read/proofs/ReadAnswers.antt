-- What is read of a text is what it is accepted as, and what is told of it is its first bad line.
use Rattle.std.proofs.Common.{◌≡◌, ℕ, List, sym, Ok, Err}
use Rattle.script_read.specs.FirstBad.{IsFirstBad}
use Rattle.script_read.specs.LineByLine.{read_text}
use Rattle.script_read.specs.declared.reason.Reason.{Reason}
use Rattle.script_read.proofs.FirstBadLaws.{read_text_ok, read_text_bad, one_first_bad}
use Rattle.script_read.proofs.SourceLaws.{read_is_accepted, accepted_not_bad, one_accepted}
use Rattle.script_grammar.specs.Accepted.{IsAccepted}
use Rattle.script_types.specs.declared.context.Context.{Context}
use Rattle.script_types.specs.declared.script.Script.{Script}

-- a text that is read
pub whole_is_accepted : (bytes : List ℕ) (c : Context) → Ok c ≡ read_text bytes → IsAccepted bytes c.script
whole_is_accepted bytes c h = read_is_accepted bytes c.script (read_text_ok bytes c (sym h))

pub whole_is_only : (bytes : List ℕ) (c : Context) → Ok c ≡ read_text bytes → (script : Script) → IsAccepted bytes script → c.script ≡ script
whole_is_only bytes c h script a = one_accepted bytes c.script script (whole_is_accepted bytes c h) a

pub whole_is_not_bad : (bytes : List ℕ) (c : Context) → Ok c ≡ read_text bytes → (line : ℕ) (why : Reason) → IsFirstBad bytes line why → ⊥
whole_is_not_bad bytes c h line why b = accepted_not_bad bytes c.script line why (whole_is_accepted bytes c h) b

-- one that is refused
pub bad_is_first : (bytes : List ℕ) (line : ℕ) (why : Reason) → Err (line, why) ≡ read_text bytes → IsFirstBad bytes line why
bad_is_first bytes line why h = read_text_bad bytes line why (sym h)

pub bad_is_not_accepted : (bytes : List ℕ) (line : ℕ) (why : Reason) → Err (line, why) ≡ read_text bytes → (script : Script) → IsAccepted bytes script → ⊥
bad_is_not_accepted bytes line why h script a = accepted_not_bad bytes script line why a (bad_is_first bytes line why h)

pub bad_is_only : (bytes : List ℕ) (line : ℕ) (why : Reason) → Err (line, why) ≡ read_text bytes
    → (other : ℕ) (reason : Reason) → IsFirstBad bytes other reason → (line ≡ other) × (why ≡ reason)
bad_is_only bytes line why h other reason b = one_first_bad bytes line other why reason (bad_is_first bytes line why h) b
