-- The text of a refusal.
use Rattle.std.specs.Prelude.{ℕ, List, [], ◌∷◌, ◌++◌, codes, decimal}
use Rattle.script_read.specs.declared.reason.Reason.{Reason}
use Rattle.script_read.specs.declared.reason.Reason.TheVariants as reason

-- the word of a reason
abbrev pub reason_word : Reason → List ℕ
reason_word reason.Byte = codes "byte"
reason_word reason.Long = codes "long"
reason_word reason.Word = codes "word"
reason_word reason.Order = codes "order"
reason_word reason.Count = codes "count"
reason_word reason.Form = codes "form"
reason_word reason.Range = codes "range"
reason_word reason.Kind = codes "kind"
reason_word reason.Twice = codes "twice"
reason_word reason.Unknown = codes "unknown"
reason_word reason.Limit = codes "limit"
reason_word reason.End = codes "end"

-- the one line that is written of a refused script
abbrev pub refusal_text : ℕ → Reason → List ℕ
refusal_text line why = codes "refused line " ++ decimal line ++ codes " " ++ reason_word why ++ 10 ∷ []
