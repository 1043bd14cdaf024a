-- The words of a line.
use Rattle.std.specs.Fmt.{signed_decimal}
use Rattle.std.specs.Prelude.{ℕ, List, [], ◌∷◌, ◌++◌, codes, decimal}
use Rattle.script_types.specs.Forms.{Form, form_of, operands_of}
use Rattle.script_types.specs.Keywords.{keyword_text}
use Rattle.script_types.specs.Operands.{value_words}
use Rattle.script_types.specs.declared.declaration.Op.{Op}
use Rattle.script_types.specs.declared.declaration.Op.TheVariants as op
use Rattle.script_types.specs.declared.source_line.SourceLine.{SourceLine}

-- the words of an operation
abbrev pub op_words : Op → List (List ℕ)
op_words (op.Idfc name) = codes "idfc" ∷ name ∷ []
op_words (op.Dfc name) = codes "dfc" ∷ name ∷ []
op_words (op.Fssignal name) = codes "fssignal" ∷ name ∷ []
op_words (op.Device x code) = codes "device" ∷ (100 ∷ decimal x) ∷ signed_decimal code ∷ []
op_words (op.Queue name) = codes "queue" ∷ name ∷ []

-- the words of a body: `;` stands between two operations
abbrev pub body_words : List Op → List (List ℕ)
body_words [] = []
body_words (what ∷ []) = op_words what
body_words (what ∷ next ∷ ops) = op_words what ++ codes ";" ∷ body_words (next ∷ ops)

-- the first word, those of the operands, and those of the body
abbrev pub form_words : Form → List (List ℕ)
form_words f = keyword_text f.keyword ∷ (value_words (operands_of f.keyword f.second) f.values ++ body_words f.body)

-- the words of a line
abbrev pub source_words : SourceLine → List (List ℕ)
source_words l = form_words (form_of l)
