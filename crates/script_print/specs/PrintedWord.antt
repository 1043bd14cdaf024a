-- The words of printed lines.
use Rattle.std.specs.Fmt.{signed_decimal}
use Rattle.std.specs.Prelude.{ℕ, ◌==◌, if◌then◌else◌, List, [], ◌∷◌, codes, decimal}
use Rattle.script_types.specs.Keywords.{keyword_text}
use Rattle.script_print.specs.declared.word.Word.{Word}
use Rattle.script_print.specs.declared.word.Word.TheVariants as word
use Rattle.script_types.specs.Operands.{kind_word, slots_word, arg_word}

-- the text of each word
abbrev pub word_text : Word → List ℕ
word_text (word.Key k) = keyword_text k
word_text word.Device = codes "device"
word_text word.Held = codes "held"
word_text word.Next = codes ";"
word_text (word.Named name) = name
word_text (word.Kinded kind) = kind_word kind
word_text (word.Number n) = decimal n
word_text (word.Code n) = signed_decimal n
word_text (word.Register x) = 114 ∷ decimal x
word_text (word.Message x) = 109 ∷ decimal x
word_text (word.Status x) = 115 ∷ decimal x
word_text (word.DeviceNumber x) = 100 ∷ decimal x
word_text (word.FastMutex x) = 102 ∷ decimal x
word_text (word.Slotted s) = slots_word s
word_text (word.Argument a) = arg_word a

-- what stands before the operation of this number in a body
abbrev pub separator : ℕ → List (List ℕ)
separator number = if number == 0 then [] else codes ";" ∷ []
