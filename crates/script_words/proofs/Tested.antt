-- The words of a line whose forms and ranges are right are of their signs.
use Rattle.std.proofs.Common.{◌≡◌, ℕ, ◌≤◌, Bool, true, false, List, [], ◌∷◌, length, drop, zero, suc, refl, subst, arith, Option, Some, None}
use Rattle.std.proofs.lemmas.Bool.{leb-true, le-leb}
use Rattle.std.specs.List.{AllByRecursion, list_all}
use Rattle.std.specs.Prelude.{◌&&◌, ◌||◌, ◌==◌, nat_le, is_some, codes}
use Rattle.std.specs.Str.{bytes_eq}
use Rattle.std.specs.Str.Parse.{digits_value}
use Rattle.script_words.specs.Fields.{is_number}
use Rattle.script_words.specs.LineSigns.{word_at, body_part, body_passes, operations, op_signs, op_passes, is_op, all_pass_as}
use Rattle.script_words.specs.Operands.{IsSigned, IsOf, AreOf, IsOperation, IsBody, IsTestedAs}
use Rattle.script_words.specs.Signs.{has_form, is_in_range, is_natural, is_between, each_passes}
use Rattle.script_types.specs.Forms.{operands_of, body_of}
use Rattle.script_types.specs.declared.keyword.Keyword.{Keyword}
use Rattle.script_types.specs.declared.operand.BodyKind.{BodyKind}
use Rattle.script_types.specs.declared.operand.BodyKind.TheVariants as body
use Rattle.script_types.specs.declared.operand.Operand.{Operand}
use Rattle.script_types.specs.declared.operand.Operand.TheVariants as operand
use Rattle.script_words.proofs.ObjectNames.{object_name_is_name}
use Rattle.script_words.proofs.Operands.{natural_known}
use Rattle.script_words.proofs.Steps.{both, by_test, same_bytes}
use Rattle.sym_base.specs.NameText.{name_byte, name_of}
use Rattle.script_words.proofs.OperandsAgain.{or_right}

-- a code is a number of 32 bits
wider : (low high more : ℕ) (word : List ℕ) → high ≤ more → is_natural low high word ≡ true → is_natural low more word ≡ true
wider low high more word le h =
    let parts = both (is_number word && nat_le (digits_value 10 word) high) (nat_le low (digits_value 10 word)) h in
    let front = both (is_number word) (nat_le (digits_value 10 word) high) parts.0 in
    let under : digits_value 10 word ≤ high = leb-true (digits_value 10 word) high front.1 in
    let within : nat_le (digits_value 10 word) more ≡ true = le-leb (digits_value 10 word) more (omega arith) in
    rw (front.0, within, parts.1) refl

code_known : (word : List ℕ) → is_between 2147483646 2147483647 word ≡ true → IsSigned word
code_known [] h = absurd (cc)
code_known (c ∷ digits) h =
    by_test {P = IsSigned (c ∷ digits)} (c == 45)
    (λ e. record { range = rw e (wider 1 2147483646 2147483648 digits (omega arith) (rw e at h)) })
    (λ e. record { range = rw e (rw e at h) })

-- a name that is one
some_name : (word : List ℕ) → is_some (name_of word) ≡ true → name_of word ≡ Some word
some_name word h =
    let test : Bool = nat_le 1 (length word) && nat_le (length word) 16 && list_all name_byte word in
    by_test {P = name_of word ≡ Some word} test (λ e. rw e refl) (λ e. let none : false ≡ true = rw e at h in absurd (cc))

-- a word of each sign
sign_known : (s : Operand) (word : List ℕ) → has_form s word ≡ true → is_in_range s word ≡ true → IsOf s word
sign_known (operand.Number low high) word form range = natural_known low high word range
sign_known operand.Code word form range = code_known word range
sign_known (operand.Lettered letter last) word form range = natural_known 0 last (drop 1 word) range
sign_known operand.Name word form range = record { text = object_name_is_name word form }
sign_known operand.Category word form range = record { text = some_name word form }
sign_known operand.Slots word form range = record {
  own = λ e. natural_known 1 255 word (or_right (bytes_eq word (codes "pool")) (is_natural 1 255 word) e range);
}
sign_known operand.Argument word form range = record { parts = range }
sign_known _ word form range = tt

-- the word at a place passes the test of the next sign
pub next_word : (test : Operand → List ℕ → Bool) (s : Operand) (signs : List Operand) (words : List (List ℕ)) (i : ℕ)
    → each_passes test (s ∷ signs) (drop i words) ≡ true
    → (test s (word_at words i) ≡ true) × (each_passes test signs (drop (suc i) words) ≡ true)
next_word test s signs [] zero h = absurd (cc)
next_word test s signs [] (suc i) h = absurd (cc)
next_word test s signs (w ∷ ws) zero h = both (test s w) (each_passes test signs ws) h
next_word test s signs (w ∷ ws) (suc i) h = next_word test s signs ws i h

words_known : (signs : List Operand) (words : List (List ℕ)) (i : ℕ) → each_passes has_form signs (drop i words) ≡ true
    → each_passes is_in_range signs (drop i words) ≡ true → AreOf signs words i
words_known [] words i form range = tt
words_known (s ∷ signs) words i form range =
    let f = next_word has_form s signs words i form in
    let r = next_word is_in_range s signs words i range in
    (sign_known s (word_at words i) f.0 r.0, words_known signs words (suc i) f.1 r.1)

-- the operands of an operation
abbrev HasOperands : Option (List Operand) → List (List ℕ) → Type 0
HasOperands None words = ⊥
HasOperands (Some signs) words = AreOf signs words 1

operands_known : (signs : Option (List Operand)) (first : List ℕ) (words : List (List ℕ))
    → op_passes has_form signs words ≡ true → op_passes is_in_range signs words ≡ true
    → HasOperands signs (first ∷ words)
operands_known None first words form range = absurd (cc)
operands_known (Some signs) first words form range =
    let f = both (length words == length signs) (each_passes has_form signs words) form in
    let r = both (length words == length signs) (each_passes is_in_range signs words) range in
    words_known signs (first ∷ words) 1 f.1 r.1

operation_by : (kind : BodyKind) (first : List ℕ) (words : List (List ℕ)) → HasOperands (op_signs kind first) (first ∷ words) → IsOperation (first ∷ words)
operation_by body.Interrupt first words known = record {
  device = λ e. absurd (subst (λ (f : List ℕ). HasOperands (op_signs body.Interrupt f) (f ∷ words)) (same_bytes first (codes "device") e) known);
  other = λ e. by_test (bytes_eq first (codes "idfc") || bytes_eq first (codes "dfc")) (λ t. (rw t at known).0) (λ t. absurd (rw t at known));
}
operation_by body.Call first words known = record {
  device = λ e.
      let named = subst (λ (f : List ℕ). HasOperands (op_signs body.Call f) (f ∷ words)) (same_bytes first (codes "device") e) known in
      (named.0, named.1.0);
  other = λ e. by_test (bytes_eq first (codes "fssignal") || bytes_eq first (codes "queue")) (λ t. (rw t at known).0) (λ t. absurd (rw (t, e) at known));
}

operation_known : (kind : BodyKind) (words : List (List ℕ)) → is_op has_form kind words ≡ true → is_op is_in_range kind words ≡ true → IsOperation words
operation_known kind [] form range = absurd (cc)
operation_known kind (first ∷ words) form range = operation_by kind first words (operands_known (op_signs kind first) first words form range)

operations_known : (kind : BodyKind) (ops : List (List (List ℕ))) → list_all (is_op has_form kind) ops ≡ true
    → list_all (is_op is_in_range kind) ops ≡ true → AllByRecursion IsOperation ops
operations_known kind [] form range = tt
operations_known kind (op ∷ ops) form range =
    let f = both (is_op has_form kind op) (list_all (is_op has_form kind) ops) form in
    let r = both (is_op is_in_range kind op) (list_all (is_op is_in_range kind) ops) range in
    (operation_known kind op f.0 r.0, operations_known kind ops f.1 r.1)

body_known : (kind : Option BodyKind) (words : List (List ℕ)) → body_passes has_form kind words ≡ true
    → body_passes is_in_range kind words ≡ true → IsBody kind words
body_known None words form range = tt
body_known (Some kind) words form range = operations_known kind (operations words) form range

-- a line
pub tested : (k : Keyword) (second : Bool) (words : List (List ℕ)) → all_pass_as has_form k second words ≡ true
    → all_pass_as is_in_range k second words ≡ true → IsTestedAs k second words
tested k second words form range =
    let operands = operands_of k second in
    let f = both (each_passes has_form operands (drop 1 words)) (body_passes has_form (body_of k second) (body_part operands words)) form in
    let r = both (each_passes is_in_range operands (drop 1 words)) (body_passes is_in_range (body_of k second) (body_part operands words)) range in
    record {
      operands = words_known operands words 1 f.0 r.0;
      body = body_known (body_of k second) (body_part operands words) f.1 r.1;
    }
