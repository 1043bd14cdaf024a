-- The form and the range of each operand.
use Rattle.std.specs.Prelude.{ℕ, ℤ, pos, neg_ℤ, Bool, true, false, not, ◌&&◌, ◌||◌, ◌==◌, nat_le, if◌then◌else◌, List, [], ◌∷◌, length, drop, is_some, codes}
use Rattle.std.specs.Str.{bytes_eq}
use Rattle.std.specs.Str.Parse.{digits_value}
use Rattle.script_words.specs.Fields.{is_number}
use Rattle.script_types.specs.declared.operand.Operand.{Operand}
use Rattle.script_types.specs.declared.operand.Operand.TheVariants as operand
use Rattle.script_types.specs.ObjectName.{is_object_name}
use Rattle.script_types.specs.SourceText.{split}
use Rattle.sym_base.specs.NameText.{name_of}

-- a number: digits without a zero before another, and behind a `-`, which is 45, no zero alone
abbrev pub is_signed : List ℕ → Bool
is_signed [] = false
is_signed (c ∷ digits) = if c == 45 then is_number digits && not (bytes_eq digits (codes "0")) else is_number (c ∷ digits)

abbrev pub signed_value : List ℕ → ℤ
signed_value [] = pos 0
signed_value (c ∷ digits) = if c == 45 then neg_ℤ (pos (digits_value 10 digits)) else pos (digits_value 10 (c ∷ digits))

-- a number from the first to the second, neither of which is negative
abbrev pub is_natural : ℕ → ℕ → List ℕ → Bool
is_natural low high word = is_number word && nat_le (digits_value 10 word) high && nat_le low (digits_value 10 word)

-- a number from the negative of the first to the second
abbrev pub is_between : ℕ → ℕ → List ℕ → Bool
is_between below above [] = false
is_between below above (c ∷ digits) = if c == 45 then is_natural 1 below digits else is_natural 0 above (c ∷ digits)

-- a letter and a number, and that number
abbrev pub is_lettered : ℕ → List ℕ → Bool
is_lettered letter [] = false
is_lettered letter (c ∷ digits) = (c == letter) && is_number digits

abbrev pub lettered_value : List ℕ → ℕ
lettered_value word = digits_value 10 (drop 1 word)

abbrev pub is_lettered_within : ℕ → List ℕ → Bool
is_lettered_within last word = is_natural 0 last (drop 1 word)

-- the parts of a word between colons, which are 58
abbrev pub colon_parts : List ℕ → List (List ℕ)
colon_parts word = split (λ byte. byte == 58) word

-- a code, a number of 32 bits, and a place or a number of bytes of memory
abbrev pub is_code_word : List ℕ → Bool
is_code_word word = is_between 2147483646 2147483647 word

abbrev pub is_number_word : List ℕ → Bool
is_number_word word = is_between 2147483648 2147483647 word

abbrev pub is_size_word : List ℕ → Bool
is_size_word word = is_natural 0 1024 word

-- an argument: a number, or `d` and three numbers
abbrev pub are_arg_parts : (List ℕ → Bool) → (List ℕ → Bool) → List (List ℕ) → Bool
are_arg_parts number size (word ∷ []) = number word
are_arg_parts number size (d ∷ offset ∷ length ∷ max ∷ []) = bytes_eq d (codes "d") && size offset && size length && size max
are_arg_parts number size _ = false

-- whether a word has the form of an operand
abbrev pub has_form : Operand → List ℕ → Bool
has_form (operand.Number low high) word = is_signed word
has_form operand.Code word = is_signed word
has_form (operand.Lettered letter last) word = is_lettered letter word
has_form operand.Name word = is_object_name word
has_form operand.Category word = is_some (name_of word)
has_form operand.Kind word =
    bytes_eq word (codes "process") || bytes_eq word (codes "thread") || bytes_eq word (codes "mutex") || bytes_eq word
    (codes "semaphore")
has_form operand.Mutex word = bytes_eq word (codes "mutex")
has_form operand.Semaphore word = bytes_eq word (codes "semaphore")
has_form operand.Slots word = bytes_eq word (codes "pool") || is_signed word
has_form operand.Argument word = are_arg_parts is_signed is_signed (colon_parts word)
has_form operand.Held word = bytes_eq word (codes "held")

-- whether the numbers of a word that has the form are in the operand's range
abbrev pub is_in_range : Operand → List ℕ → Bool
is_in_range (operand.Number low high) word = is_natural low high word
is_in_range operand.Code word = is_code_word word
is_in_range (operand.Lettered letter last) word = is_lettered_within last word
is_in_range operand.Slots word = bytes_eq word (codes "pool") || is_natural 1 255 word
is_in_range operand.Argument word = are_arg_parts is_number_word is_size_word (colon_parts word)
is_in_range _ word = true

-- whether each word passes the test of its operand
abbrev pub each_passes : (Operand → List ℕ → Bool) → List Operand → List (List ℕ) → Bool
each_passes test [] words = true
each_passes test (what ∷ operands) [] = false
each_passes test (what ∷ operands) (word ∷ words) = test what word && each_passes test operands words
