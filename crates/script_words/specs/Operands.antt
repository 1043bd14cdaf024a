-- What is known of the words of a line that have the forms and ranges of their operands.
use Rattle.std.specs.List.{AllByRecursion}
use Rattle.std.specs.Prelude.{◌≡◌, ℕ, ◌≤◌, suc, Bool, false, ⊤, IsTrue, List, [], ◌∷◌, drop, codes, Option, Some, None}
use Rattle.std.specs.Str.{bytes_eq}
use Rattle.script_words.specs.Fields.{is_number}
use Rattle.script_words.specs.LineAt.{natural}
use Rattle.script_words.specs.LineSigns.{word_at, second_of, body_part, operations}
use Rattle.script_words.specs.Signs.{is_number_word, is_size_word, are_arg_parts, colon_parts}
use Rattle.script_types.specs.Forms.{operands_of, body_of}
use Rattle.script_types.specs.declared.keyword.Keyword.{Keyword}
use Rattle.script_types.specs.declared.operand.BodyKind.{BodyKind}
use Rattle.script_types.specs.declared.operand.Operand.{Operand}
use Rattle.script_types.specs.declared.operand.Operand.TheVariants as operand
use Rattle.sym_base.specs.NameText.{name_of}

-- a number without a sign that is at most the last
pub record IsNumber (last : ℕ) (word : List ℕ) : Type 0 where
  pub digits : IsTrue (is_number word)
  pub within : natural word ≤ last

-- a number of 32 bits, which may have a `-`
pub record IsSigned (word : List ℕ) : Type 0 where
  pub range : IsTrue (is_number_word word)

-- a name, of an object or a category
pub record IsName (word : List ℕ) : Type 0 where
  pub text : name_of word ≡ Some word

-- the slots of a session
pub record IsSlots (word : List ℕ) : Type 0 where
  pub own : bytes_eq word (codes "pool") ≡ false → IsNumber 255 word

-- an argument of a message
pub record IsArgument (word : List ℕ) : Type 0 where
  pub parts : IsTrue (are_arg_parts is_number_word is_size_word (colon_parts word))

-- a word of an operand
abbrev pub IsOf : Operand → List ℕ → Type 0
IsOf (operand.Number low high) word = IsNumber high word
IsOf operand.Code word = IsSigned word
IsOf (operand.Lettered letter last) word = IsNumber last (drop 1 word)
IsOf operand.Name word = IsName word
IsOf operand.Category word = IsName word
IsOf operand.Slots word = IsSlots word
IsOf operand.Argument word = IsArgument word
IsOf _ word = ⊤

-- each word from a place on is of its operand
abbrev pub AreOf : List Operand → List (List ℕ) → ℕ → Type 0
AreOf [] words i = ⊤
AreOf (what ∷ operands) words i = IsOf what (word_at words i) × AreOf operands words (suc i)

-- an operation of a body: only that of a device has two operands
pub record IsOperation (words : List (List ℕ)) : Type 0 where
  pub device : IsTrue (bytes_eq (word_at words 0) (codes "device")) → IsNumber 15 (drop 1 (word_at words 1)) × IsSigned (word_at words 2)
  pub other : bytes_eq (word_at words 0) (codes "device") ≡ false → IsName (word_at words 1)

-- a body, where a line has one
abbrev pub IsBody : Option BodyKind → List (List ℕ) → Type 0
IsBody None words = ⊤
IsBody (Some kind) words = AllByRecursion IsOperation (operations words)

-- the words of a line of a form, and of a line
pub record IsTestedAs (k : Keyword) (second : Bool) (words : List (List ℕ)) : Type 0 where
  pub operands : AreOf (operands_of k second) words 1
  pub body : IsBody (body_of k second) (body_part (operands_of k second) words)

abbrev pub IsTested : Bool → Keyword → List (List ℕ) → Type 0
IsTested scheduled k words = IsTestedAs k (second_of scheduled k words) words
