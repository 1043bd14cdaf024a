-- The line that words are, where their forms and ranges are right.
use Rattle.std.specs.Prelude.{ℕ, suc, Bool, if◌then◌else◌, List, [], ◌∷◌, map, codes, Option, Some, None}
use Rattle.std.specs.Str.{bytes_eq}
use Rattle.std.specs.Str.Parse.{digits_value}
use Rattle.script_words.specs.LineSigns.{word_at, second_of, body_part, operations}
use Rattle.script_words.specs.Signs.{signed_value, lettered_value, colon_parts}
use Rattle.script_types.specs.Forms.{instr_operands, operands_of, body_of, instr_of, line_of}
use Rattle.script_types.specs.Operands.{Value, Values}
use Rattle.script_types.specs.declared.declaration.Op.{Op}
use Rattle.script_types.specs.declared.declaration.Op.TheVariants as op
use Rattle.script_types.specs.declared.instruction.Instr.{Instr}
use Rattle.script_types.specs.declared.keyword.Keyword.{Keyword}
use Rattle.script_types.specs.declared.operand.BodyKind.{BodyKind}
use Rattle.script_types.specs.declared.operand.Operand.{Operand}
use Rattle.script_types.specs.declared.operand.Operand.TheVariants as operand
use Rattle.script_types.specs.declared.source_line.SourceLine.{SourceLine}
use Rattle.sym_base.specs.declared.kind.Arg.{Arg}
use Rattle.sym_base.specs.declared.kind.Arg.TheVariants as arg
use Rattle.sym_base.specs.declared.kind.Kind.{Kind}
use Rattle.sym_base.specs.declared.kind.Kind.TheVariants as kind
use Rattle.sym_base.specs.declared.kind.Slots.{Slots}
use Rattle.sym_base.specs.declared.kind.Slots.TheVariants as slots
use Rattle.sym_base.specs.declared.word.Word.{Word}

-- the number that a word is
abbrev pub natural : List ℕ → ℕ
natural word = digits_value 10 word

-- the kind that a word names
abbrev pub kind_named : List ℕ → Kind
kind_named word =
    if bytes_eq word (codes "process") then kind.Process
    else (if bytes_eq word (codes "thread") then kind.Thread
    else (if bytes_eq word (codes "mutex") then kind.Mutex
    else kind.Semaphore))

-- the slots of a session, and the arguments of a message, which stand from a place on
abbrev pub slots_named : List ℕ → Slots
slots_named word = if bytes_eq word (codes "pool") then slots.Pool else slots.Own (natural word)

abbrev pub arg_of : List (List ℕ) → Arg
arg_of (d ∷ offset ∷ length ∷ max ∷ []) = arg.Descriptor (natural offset) (natural length) (natural max)
arg_of parts = arg.Number (signed_value (word_at parts 0))

-- the operand that a word is, and the operands that words are from a place on
abbrev pub value_of : (what : Operand) → List ℕ → Value what
value_of (operand.Number low high) word = natural word
value_of operand.Code word = signed_value word
value_of (operand.Lettered letter last) word = lettered_value word
value_of operand.Name word = word
value_of operand.Category word = word
value_of operand.Kind word = kind_named word
value_of operand.Mutex word = tt
value_of operand.Semaphore word = tt
value_of operand.Held word = tt
value_of operand.Slots word = slots_named word
value_of operand.Argument word = arg_of (colon_parts word)

abbrev pub values_at : (operands : List Operand) → List (List ℕ) → ℕ → Values operands
values_at [] words i = tt
values_at (what ∷ operands) words i = (value_of what (word_at words i), values_at operands words (suc i))

-- the operation that words are, and the body, where a line has one
abbrev pub op_of : List (List ℕ) → Op
op_of words =
    if bytes_eq (word_at words 0) (codes "idfc") then op.Idfc (word_at words 1)
    else (if bytes_eq (word_at words 0) (codes "dfc") then op.Dfc (word_at words 1)
    else (if bytes_eq (word_at words 0) (codes "fssignal") then op.Fssignal (word_at words 1)
    else (if bytes_eq (word_at words 0) (codes "device") then op.Device (lettered_value (word_at words 1)) (signed_value (word_at words 2))
    else op.Queue (word_at words 1))))

abbrev pub body_in : Option BodyKind → List (List ℕ) → List Op
body_in None words = []
body_in (Some kind) words = map op_of (operations words)

abbrev pub body_at : Keyword → Bool → List (List ℕ) → List Op
body_at k second words = body_in (body_of k second) (body_part (operands_of k second) words)

-- the instruction and the line of a form
unfoldable pub instr_at : Word → Bool → List (List ℕ) → Instr
instr_at w second words = instr_of w second (values_at (instr_operands w second) words 1)

unfoldable pub line_as : Keyword → Bool → List (List ℕ) → SourceLine
line_as k second words = line_of k second (values_at (operands_of k second) words 1) (body_at k second words)

-- the line
abbrev pub line_at : Bool → Keyword → List (List ℕ) → SourceLine
line_at scheduled k words = line_as k (second_of scheduled k words) words
