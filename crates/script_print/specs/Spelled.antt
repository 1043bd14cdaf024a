-- The words that an instruction is printed as: those of its operands, by the table of forms.
use Rattle.std.specs.Prelude.{pos, Bool, true, false, ◌&&◌, ◌==◌, List, [], ◌∷◌}
use Rattle.script_print.specs.declared.word.Word.{Word}
use Rattle.script_print.specs.declared.word.Word.TheVariants as word
use Rattle.script_types.specs.Forms.{instr_operands, instr_of}
use Rattle.script_types.specs.Operands.{Value, Values}
use Rattle.script_types.specs.declared.instruction.Instr.{Instr}
use Rattle.script_types.specs.declared.operand.Operand.{Operand}
use Rattle.script_types.specs.declared.operand.Operand.TheVariants as operand
use Rattle.sym_base.specs.declared.kind.Arg.TheVariants as arg
use Rattle.sym_base.specs.declared.kind.Kind.TheVariants as kind
use Rattle.sym_base.specs.declared.kind.Slots.TheVariants as slots
use Rattle.sym_base.specs.declared.word.Word.{Word as FirstWord}
use Rattle.sym_base.specs.declared.word.Word.TheVariants as first

-- whether a printed word is one of an operand. The letters are those of registers, 114, of registers of messages, 109,
-- of statuses, 115, of devices, 100, and of fast mutexes, 102
abbrev pub is_of : Operand → Word → Bool
is_of (operand.Number low high) (word.Number n) = true
is_of operand.Code (word.Code n) = true
is_of (operand.Lettered letter last) (word.Register x) = letter == 114
is_of (operand.Lettered letter last) (word.Message x) = letter == 109
is_of (operand.Lettered letter last) (word.Status x) = letter == 115
is_of (operand.Lettered letter last) (word.DeviceNumber x) = letter == 100
is_of (operand.Lettered letter last) (word.FastMutex x) = letter == 102
is_of operand.Name (word.Named name) = true
is_of operand.Category (word.Named name) = true
is_of operand.Kind (word.Kinded what) = true
is_of operand.Mutex (word.Kinded kind.Mutex) = true
is_of operand.Semaphore (word.Kinded kind.Semaphore) = true
is_of operand.Slots (word.Slotted s) = true
is_of operand.Argument (word.Argument a) = true
is_of _ _ = false

-- the operand that a printed word is. One of another kind is none, and anything stands for it
abbrev pub value_in : (what : Operand) → Word → Value what
value_in (operand.Number low high) (word.Number n) = n
value_in (operand.Number low high) _ = 0
value_in operand.Code (word.Code n) = n
value_in operand.Code _ = pos 0
value_in (operand.Lettered letter last) (word.Register x) = x
value_in (operand.Lettered letter last) (word.Message x) = x
value_in (operand.Lettered letter last) (word.Status x) = x
value_in (operand.Lettered letter last) (word.DeviceNumber x) = x
value_in (operand.Lettered letter last) (word.FastMutex x) = x
value_in (operand.Lettered letter last) _ = 0
value_in operand.Name (word.Named name) = name
value_in operand.Name _ = []
value_in operand.Category (word.Named name) = name
value_in operand.Category _ = []
value_in operand.Kind (word.Kinded what) = what
value_in operand.Kind _ = kind.Process
value_in operand.Mutex _ = tt
value_in operand.Semaphore _ = tt
value_in operand.Held _ = tt
value_in operand.Slots (word.Slotted s) = s
value_in operand.Slots _ = slots.Pool
value_in operand.Argument (word.Argument a) = a
value_in operand.Argument _ = arg.Number (pos 0)

-- the same of the words of operands, in their order
abbrev pub are_of : List Operand → List Word → Bool
are_of [] [] = true
are_of (what ∷ operands) (w ∷ words) = is_of what w && are_of operands words
are_of _ _ = false

abbrev pub values_in : (operands : List Operand) → List Word → Values operands
values_in [] words = tt
values_in (what ∷ operands) [] = (value_in what word.Next, values_in operands [])
values_in (what ∷ operands) (w ∷ words) = (value_in what w, values_in operands words)

-- `create` has a second form, which makes a semaphore
abbrev pub is_second : FirstWord → List Word → Bool
is_second first.Create (word.Kinded kind.Semaphore ∷ words) = true
is_second _ _ = false

-- the instruction that a first word and words of operands are, and whether those are the operands that it has
abbrev pub instr_in : FirstWord → List Word → Instr
instr_in w words = instr_of w (is_second w words) (values_in (instr_operands w (is_second w words)) words)

abbrev pub are_operands : FirstWord → List Word → Bool
are_operands w words = are_of (instr_operands w (is_second w words)) words
