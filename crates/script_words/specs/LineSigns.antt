-- The operands of each line's words, and the operations of a body.
use Rattle.std.specs.List.{list_all}
use Rattle.std.specs.Prelude.{ℕ, suc, Bool, true, false, ◌&&◌, ◌||◌, ◌==◌, nat_le, if◌then◌else◌, List, [], ◌∷◌, length, drop, slice_index_or, Option, Some, None, codes}
use Rattle.std.specs.Str.{bytes_eq}
use Rattle.script_words.specs.Signs.{each_passes, has_form, is_in_range}
use Rattle.script_types.specs.Forms.{device, operands_of, body_of}
use Rattle.script_types.specs.SourceText.{split}
use Rattle.script_types.specs.declared.keyword.Keyword.{Keyword}
use Rattle.script_types.specs.declared.keyword.Keyword.TheVariants as key
use Rattle.script_types.specs.declared.operand.BodyKind.{BodyKind}
use Rattle.script_types.specs.declared.operand.BodyKind.TheVariants as body
use Rattle.script_types.specs.declared.operand.Operand.{Operand}
use Rattle.script_types.specs.declared.operand.Operand.TheVariants as operand
use Rattle.sym_base.specs.declared.word.Word.TheVariants as word

abbrev pub word_at : List (List ℕ) → ℕ → List ℕ
word_at words i = slice_index_or words i []

-- Whether words are the second form of their first word: a slot behind `schedule`, a thread with a fourth word, and a
-- semaphore that is made.
abbrev pub second_of : Bool → Keyword → List (List ℕ) → Bool
second_of scheduled key.Irq words = scheduled
second_of scheduled key.Kthread words = length words == 4
second_of scheduled key.Thread words = length words == 4
second_of scheduled (key.Instr word.Create) words = bytes_eq (word_at words 1) (codes "semaphore")
second_of scheduled _ words = false

-- the words of a body, and its operations: the word `;` stands between two
abbrev pub body_part : List Operand → List (List ℕ) → List (List ℕ)
body_part operands words = drop (suc (length operands)) words

abbrev pub operations : List (List ℕ) → List (List (List ℕ))
operations words = split (λ word. bytes_eq word (codes ";")) words

-- the operands of an operation of a body, None where it is none of the body's list
abbrev pub op_signs : BodyKind → List ℕ → Option (List Operand)
op_signs body.Interrupt first = if bytes_eq first (codes "idfc") || bytes_eq first (codes "dfc") then Some (operand.Name ∷ []) else None
op_signs body.Call first =
    if bytes_eq first (codes "fssignal") || bytes_eq first (codes "queue") then Some (operand.Name ∷ [])
    else (if bytes_eq first (codes "device") then Some (device ∷ operand.Code ∷ [])
    else None)

-- so many words as operands, each of which passes the test
abbrev pub are_words : (Operand → List ℕ → Bool) → List Operand → List (List ℕ) → Bool
are_words test operands words = (length words == length operands) && each_passes test operands words

abbrev pub op_passes : (Operand → List ℕ → Bool) → Option (List Operand) → List (List ℕ) → Bool
op_passes test None words = false
op_passes test (Some operands) words = are_words test operands words

abbrev pub is_op : (Operand → List ℕ → Bool) → BodyKind → List (List ℕ) → Bool
is_op test kind [] = false
is_op test kind (first ∷ words) = op_passes test (op_signs kind first) words

abbrev pub body_passes : (Operand → List ℕ → Bool) → Option BodyKind → List (List ℕ) → Bool
body_passes test None words = true
body_passes test (Some kind) words = list_all (is_op test kind) (operations words)

-- whether the number of words is the line's: with a body, one word of it at least
abbrev pub is_counted_with : Option BodyKind → List Operand → List (List ℕ) → Bool
is_counted_with None operands words = length words == suc (length operands)
is_counted_with (Some kind) operands words = nat_le (suc (suc (length operands))) (length words)

abbrev pub is_counted_as : Keyword → Bool → List (List ℕ) → Bool
is_counted_as k second words = is_counted_with (body_of k second) (operands_of k second) words

abbrev pub is_counted : Bool → Keyword → List (List ℕ) → Bool
is_counted scheduled k words = is_counted_as k (second_of scheduled k words) words

-- whether each word behind the first passes a test of its operand
abbrev pub all_pass_as : (Operand → List ℕ → Bool) → Keyword → Bool → List (List ℕ) → Bool
all_pass_as test k second words =
    each_passes test (operands_of k second) (drop 1 words) && body_passes test (body_of k second)
    (body_part (operands_of k second) words)

abbrev pub all_pass : (Operand → List ℕ → Bool) → Bool → Keyword → List (List ℕ) → Bool
all_pass test scheduled k words = all_pass_as test k (second_of scheduled k words) words

abbrev pub have_forms : Bool → Keyword → List (List ℕ) → Bool
have_forms scheduled k words = all_pass has_form scheduled k words

abbrev pub are_in_range : Bool → Keyword → List (List ℕ) → Bool
are_in_range scheduled k words = all_pass is_in_range scheduled k words
