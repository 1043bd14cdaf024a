-- The kinds of operand: what a word of each stands for, its range, and its word.
use Rattle.std.specs.Fmt.{signed_decimal}
use Rattle.std.specs.Prelude.{ℕ, ℤ, pos, negsuc, Bool, true, false, ◌&&◌, nat_le, int_le, List, [], ◌∷◌, ◌++◌, codes, decimal, is_some}
use Rattle.script_types.specs.ObjectName.{is_object_name}
use Rattle.script_types.specs.declared.operand.Operand.{Operand}
use Rattle.script_types.specs.declared.operand.Operand.TheVariants as operand
use Rattle.sym_base.specs.NameText.{name_of}
use Rattle.sym_base.specs.declared.kind.Arg.{Arg}
use Rattle.sym_base.specs.declared.kind.Arg.TheVariants as arg
use Rattle.sym_base.specs.declared.kind.Kind.{Kind}
use Rattle.sym_base.specs.declared.kind.Kind.TheVariants as kind
use Rattle.sym_base.specs.declared.kind.Slots.{Slots}
use Rattle.sym_base.specs.declared.kind.Slots.TheVariants as slots

-- what an operand of each kind is. A word that is fixed is nothing further
abbrev pub Value : Operand → Type 0
Value (operand.Number low high) = ℕ
Value operand.Code = ℤ
Value (operand.Lettered letter last) = ℕ
Value operand.Name = List ℕ
Value operand.Category = List ℕ
Value operand.Kind = Kind
Value operand.Mutex = Unit {0}
Value operand.Semaphore = Unit {0}
Value operand.Held = Unit {0}
Value operand.Slots = Slots
Value operand.Argument = Arg

-- one operand of each of these kinds
abbrev pub Values : List Operand → Type 0
Values [] = Unit {0}
Values (what ∷ operands) = Value what × Values operands

-- a code: -2147483646 to 2147483647
abbrev pub is_code : ℤ → Bool
is_code code = int_le (negsuc 2147483645) code && int_le code (pos 2147483647)

-- a number of 32 bits with a sign
abbrev pub is_word32 : ℤ → Bool
is_word32 n = int_le (negsuc 2147483647) n && int_le n (pos 2147483647)

-- a kind that can be opened by name
abbrev pub is_opened : Kind → Bool
is_opened kind.Server = false
is_opened kind.Session = false
is_opened _ = true

-- a place or a number of bytes of a process's memory
abbrev pub is_size : ℕ → Bool
is_size n = nat_le n 1024

-- the slots of a session, and an argument of a message
abbrev pub is_slots : Slots → Bool
is_slots (slots.Own count) = nat_le 1 count && nat_le count 255
is_slots slots.Pool = true

abbrev pub is_arg : Arg → Bool
is_arg (arg.Number n) = is_word32 n
is_arg (arg.Descriptor offset length max) = is_size offset && is_size length && is_size max

-- whether an operand is in its range
abbrev pub is_value : (what : Operand) → Value what → Bool
is_value (operand.Number low high) n = nat_le low n && nat_le n high
is_value operand.Code n = is_code n
is_value (operand.Lettered letter last) n = nat_le n last
is_value operand.Name name = is_object_name name
is_value operand.Category name = is_some (name_of name)
is_value operand.Kind what = is_opened what
is_value operand.Mutex n = true
is_value operand.Semaphore n = true
is_value operand.Held n = true
is_value operand.Slots s = is_slots s
is_value operand.Argument a = is_arg a

abbrev pub are_values : (operands : List Operand) → Values operands → Bool
are_values [] values = true
are_values (what ∷ operands) values = is_value what values.0 && are_values operands values.1

-- the word of a kind of object
abbrev pub kind_word : Kind → List ℕ
kind_word kind.Process = codes "process"
kind_word kind.Thread = codes "thread"
kind_word kind.Mutex = codes "mutex"
kind_word kind.Semaphore = codes "semaphore"
kind_word kind.Server = codes "server"
kind_word kind.Session = codes "session"

-- the slots of a session
abbrev pub slots_word : Slots → List ℕ
slots_word (slots.Own count) = decimal count
slots_word slots.Pool = codes "pool"

-- an argument of a message: a number, or offset, length and maximum length of a descriptor
abbrev pub arg_word : Arg → List ℕ
arg_word (arg.Number n) = signed_decimal n
arg_word (arg.Descriptor offset length max) = codes "d:" ++ decimal offset ++ codes ":" ++ decimal length ++ codes ":" ++ decimal max

-- the word of an operand
abbrev pub value_word : (what : Operand) → Value what → List ℕ
value_word (operand.Number low high) n = decimal n
value_word operand.Code n = signed_decimal n
value_word (operand.Lettered letter last) n = letter ∷ decimal n
value_word operand.Name name = name
value_word operand.Category name = name
value_word operand.Kind what = kind_word what
value_word operand.Mutex n = codes "mutex"
value_word operand.Semaphore n = codes "semaphore"
value_word operand.Held n = codes "held"
value_word operand.Slots s = slots_word s
value_word operand.Argument a = arg_word a

abbrev pub value_words : (operands : List Operand) → Values operands → List (List ℕ)
value_words [] values = []
value_words (what ∷ operands) values = value_word what values.0 ∷ value_words operands values.1
