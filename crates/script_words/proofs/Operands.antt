-- Words that have the forms and ranges of their signs are of their signs.
use Rattle.std.proofs.Common.{◌≡◌, ℕ, ◌≤◌, true, false, List, [], ◌∷◌, length, drop, refl, sym, ap, ◌∙◌, arith, Some, None}
use Rattle.std.proofs.lemmas.Bool.{leb-true, le-leb}
use Rattle.std.specs.Prelude.{◌&&◌, nat_le, codes}
use Rattle.std.specs.Str.{bytes_eq}
use Rattle.std.specs.Str.Parse.{digits_value}
use Rattle.script_words.specs.Fields.{is_number, number_of, cut_of}
use Rattle.script_words.specs.LineAt.{natural, arg_of}
use Rattle.script_words.specs.Operands.{IsNumber, IsSigned, IsArgument}
use Rattle.script_words.specs.Pieces.{three_of}
use Rattle.script_words.specs.Signs.{is_natural, is_number_word, is_size_word, are_arg_parts, colon_parts, signed_value}
use Rattle.script_words.proofs.Arguments.{one_part, other_parts, three_are}
use Rattle.script_words.proofs.SourceLines.{split_cut, split_alone}
use Rattle.script_words.proofs.Steps.{both}
use Rattle.sym_base.specs.declared.kind.Arg.TheVariants as arg

-- a number is read
pub number_known : (last : ℕ) (word : List ℕ) → IsNumber last word → number_of last word ≡ Some (natural word)
unfolding number_of
number_known last word known =
    let digits : is_number word ≡ true = known.digits in
    let within : nat_le (natural word) last ≡ true = le-leb (natural word) last known.within in
    rw (digits, within) refl

-- a number behind a letter stands behind one
pub letter_some : (last : ℕ) (word : List ℕ) → IsNumber last (drop 1 word) → 1 ≤ length word
letter_some last [] known = let none : is_number [] ≡ true = known.digits in absurd (cc)
letter_some last (c ∷ cs) known = omega arith

-- a number in its range
pub natural_known : (low high : ℕ) (word : List ℕ) → is_natural low high word ≡ true → IsNumber high word
natural_known low high word h =
    let parts = both (is_number word && nat_le (digits_value 10 word) high) (nat_le low (digits_value 10 word)) h in
    let front = both (is_number word) (nat_le (digits_value 10 word) high) parts.0 in
    record { digits = front.0; within = leb-true (digits_value 10 word) high front.1 }

-- an argument without a colon is a number
pub number_argument : (word : List ℕ) → IsArgument word → None ≡ cut_of 58 word → IsSigned word
number_argument word known h = record { range = one_part is_number_word is_size_word word h ∙ known.parts }

pub number_is_argument : (word : List ℕ) → None ≡ cut_of 58 word → arg.Number (signed_value word) ≡ arg_of (colon_parts word)
number_is_argument word h = ap arg_of (sym (split_alone 58 word (sym h)))

-- an argument with one has three parts behind it
pub argument_has_three : (word letter rest : List ℕ) → IsArgument word → Some (letter, rest) ≡ cut_of 58 word → None ≡ three_of (colon_parts rest) → ⊥
argument_has_three word letter rest known h none =
    let bad : false ≡ true = other_parts is_number_word is_size_word word letter rest h none ∙ known.parts in
    cc

pub record AreSizes (word a b c : List ℕ) : Type 0 where
  pub offset : IsNumber 1024 a
  pub length : IsNumber 1024 b
  pub max : IsNumber 1024 c
  pub same : arg.Descriptor (natural a) (natural b) (natural c) ≡ arg_of (colon_parts word)

pub argument_sizes : (word letter rest a b c : List ℕ) → IsArgument word → Some (letter, rest) ≡ cut_of 58 word
    → Some (a, b, c) ≡ three_of (colon_parts rest) → AreSizes word a b c
argument_sizes word letter rest a b c known h three =
    let parts : letter ∷ a ∷ b ∷ c ∷ [] ≡ colon_parts word = ap (λ (ps : List (List ℕ)). letter ∷ ps)
    (three_are (colon_parts rest) a b c three) ∙ sym (split_cut 58 word letter rest (sym h)) in
    let tests : (bytes_eq letter (codes "d") && is_size_word a && is_size_word b && is_size_word c) ≡ true =
    ap (are_arg_parts is_number_word is_size_word) parts ∙ known.parts in
    let t = both (bytes_eq letter (codes "d") && is_size_word a && is_size_word b) (is_size_word c) tests in
    let s = both (bytes_eq letter (codes "d") && is_size_word a) (is_size_word b) t.0 in
    let r = both (bytes_eq letter (codes "d")) (is_size_word a) s.0 in
    record { offset = natural_known 0 1024 a r.1; length = natural_known 0 1024 b s.1; max = natural_known 0 1024 c t.1; same = ap arg_of parts }
