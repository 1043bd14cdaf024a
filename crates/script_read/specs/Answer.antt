-- What reading a script answers.
use Rattle.std.specs.Prelude.{◌≡◌, ℕ, List, ⊤}
use Rattle.script_read.specs.FirstBad.{IsFirstBad}
use Rattle.script_read.specs.declared.read.ReadScript.{ReadScript}
use Rattle.script_read.specs.declared.read.ReadScript.TheVariants as answer
use Rattle.script_read.specs.declared.reason.Reason.{Reason}
use Rattle.script_grammar.specs.Accepted.{IsAccepted}
use Rattle.script_types.specs.declared.script.Script.{Script}

-- The answer is true of the bytes: a script that they are accepted as, or their first bad line and its reason.
abbrev pub IsAnswer : List ℕ → ReadScript → Type 0
IsAnswer bytes (answer.Script script) = IsAccepted bytes script
IsAnswer bytes (answer.Refused line why) = IsFirstBad bytes line why
IsAnswer bytes answer.NoMemory = ⊤

-- the answer is this script, unless memory ran out
abbrev pub Tells : ReadScript → Script → Type 0
Tells (answer.Script script) wanted = script ≡ wanted
Tells (answer.Refused line why) wanted = ⊥
Tells answer.NoMemory wanted = ⊤

-- the answer is this line and this reason, unless memory ran out
abbrev pub Refuses : ReadScript → ℕ → Reason → Type 0
Refuses (answer.Script script) wanted reason = ⊥
Refuses (answer.Refused line why) wanted reason = (line ≡ wanted) × (why ≡ reason)
Refuses answer.NoMemory wanted reason = ⊤
