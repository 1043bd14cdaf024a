-- The words of each line in range may be printed, whatever its form, and the line isn't too long.
use Rattle.std.proofs.Common.{◌≡◌, ℕ, ℤ, pos, negsuc, ◌*◌, ◌<◌, ◌≤◌, Bool, true, false, List, [], ◌∷◌, ◌++◌, length, length-append, suc, refl, sym, subst, arith, Option, Some, None}
use Rattle.std.proofs.lemmas.Bool.{leb-true, ltb-true, le-leb}
use Rattle.std.proofs.lemmas.Bool.Decides.{nat_tests}
use Rattle.std.proofs.lemmas.Fmt.{length-decimal-le}
use Rattle.std.proofs.lemmas.List.Concat.{flat_map-append}
use Rattle.std.specs.Char.{is_ascii_digit}
use Rattle.std.specs.Fmt.{signed_decimal}
use Rattle.std.specs.List.{list_all, flat_map}
use Rattle.std.specs.Prelude.{◌==◌, ◌&&◌, ◌||◌, decimal, codes, is_some, int_le, nat_le, nat_lt, not, slice_index}
use Rattle.script_words.specs.Fields.{is_number}
use Rattle.script_print.specs.CanonicalText.{spaced}
use Rattle.script_print.proofs.CutAgain.{is_visible, is_plain, ArePlain, more_short}
use Rattle.script_words.proofs.Fields.{natural_again, natural_is_number}
use Rattle.script_words.proofs.Steps.{both, by_test}
use Rattle.script_types.specs.Forms.{instr_operands, operands_of, body_of, form_of}
use Rattle.script_types.specs.Keywords.{keyword_text}
use Rattle.script_types.specs.ObjectName.{is_lower_case, is_object_byte, is_object_name}
use Rattle.script_types.specs.Operands.{Value, Values, is_opened, is_slots, is_size, is_arg, is_value, are_values, kind_word, slots_word, arg_word, value_word, value_words}
use Rattle.script_types.specs.Ranges.{is_op, is_body, is_source_line}
use Rattle.script_types.specs.SourceText.{is_empty, is_skipped}
use Rattle.script_types.specs.SourceWords.{op_words, body_words, source_words}
use Rattle.script_types.specs.declared.declaration.Op.{Op}
use Rattle.script_types.specs.declared.declaration.Op.TheVariants as op
use Rattle.script_types.specs.declared.keyword.Keyword.{Keyword}
use Rattle.script_types.specs.declared.keyword.Keyword.TheVariants as key
use Rattle.script_types.specs.declared.operand.BodyKind.{BodyKind}
use Rattle.script_types.specs.declared.operand.BodyKind.TheVariants as body
use Rattle.script_types.specs.declared.operand.Operand.{Operand}
use Rattle.script_types.specs.declared.operand.Operand.TheVariants as operand
use Rattle.script_types.specs.declared.source_line.SourceLine.{SourceLine}
use Rattle.sym_base.specs.NameText.{name_byte, name_of}
use Rattle.sym_base.specs.WordText.{word_text}
use Rattle.sym_base.specs.declared.kind.Arg.{Arg}
use Rattle.sym_base.specs.declared.kind.Arg.TheVariants as arg
use Rattle.sym_base.specs.declared.kind.Kind.{Kind}
use Rattle.sym_base.specs.declared.kind.Kind.TheVariants as kind
use Rattle.sym_base.specs.declared.kind.Slots.{Slots}
use Rattle.sym_base.specs.declared.kind.Slots.TheVariants as slots
use Rattle.sym_base.specs.declared.word.Word.{Word}
use Rattle.sym_base.specs.declared.word.Word.TheVariants as word
use Rattle.script_words.proofs.FormsAgain.{values_size}

-- bytes that may be printed
visible_more : (xs ys : List ℕ) → list_all is_visible xs ≡ true → list_all is_visible ys ≡ true → list_all is_visible (xs ++ ys) ≡ true
visible_more [] ys h more = more
visible_more (x ∷ xs) ys h more =
    let parts = both (is_visible x) (list_all is_visible xs) h in
    rw (parts.0, visible_more xs ys parts.1 more) refl

all_visible : (test : ℕ → Bool) → ((c : ℕ) → test c ≡ true → is_visible c ≡ true) → (word : List ℕ)
    → list_all test word ≡ true → list_all is_visible word ≡ true
all_visible test see [] h = refl
all_visible test see (c ∷ cs) h = let parts = both (test c) (list_all test cs) h in rw (see c parts.0, all_visible test see cs parts.1) refl

-- names
object_visible : (c : ℕ) → is_object_byte c ≡ true → is_visible c ≡ true
object_visible c h = grind (arith, nat_tests)

lower_visible : (c : ℕ) → is_lower_case c ≡ true → is_visible c ≡ true
lower_visible c h = grind (arith, nat_tests)

name_visible : (c : ℕ) → name_byte c ≡ true → is_visible c ≡ true
name_visible c h = grind (arith, nat_tests)

name_plain : (name : List ℕ) → is_object_name name ≡ true → is_plain name ≡ true
name_plain [] h = absurd (cc)
name_plain (c ∷ cs) h =
    let parts = both (is_lower_case c && nat_le (length cs) 15) (list_all is_object_byte cs) h in
    let first = both (is_lower_case c) (nat_le (length cs) 15) parts.0 in
    let small = leb-true (length cs) 15 first.1 in
    let short : nat_le (length (c ∷ cs)) 16 ≡ true = le-leb (length (c ∷ cs)) 16 (omega arith) in
    rw (lower_visible c first.0, all_visible is_object_byte object_visible cs parts.1, short) refl

category_by : (word : List ℕ) → (nat_le 1 (length word) && nat_le (length word) 16 && list_all name_byte word) ≡ true → is_plain word ≡ true
category_by [] h = absurd (cc)
category_by (c ∷ cs) h =
    let parts = both (nat_le 1 (length (c ∷ cs)) && nat_le (length (c ∷ cs)) 16) (list_all name_byte (c ∷ cs)) h in
    let front = both (nat_le 1 (length (c ∷ cs))) (nat_le (length (c ∷ cs)) 16) parts.0 in
    let seen = all_visible name_byte name_visible (c ∷ cs) parts.1 in
    let short = front.1 in
    rw (seen, short) refl

category_plain : (word : List ℕ) → is_some (name_of word) ≡ true → is_plain word ≡ true
category_plain word h =
    by_test {P = is_plain word ≡ true} (nat_le 1 (length word) && nat_le (length word) 16 && list_all name_byte word)
    (λ e. category_by word e)
    (λ e. let none : false ≡ true = rw e at h in absurd (cc))

-- numbers
digit_visible : (c : ℕ) → is_ascii_digit c ≡ true → is_visible c ≡ true
digit_visible c h = grind (arith, nat_tests)

record Digits (word : List ℕ) : Type 0 where
  some : not (is_empty word) ≡ true
  visible : list_all is_visible word ≡ true

digits_are : (word : List ℕ) → is_number word ≡ true → Digits word
digits_are [] h = absurd (cc)
digits_are (c ∷ cs) h =
    let parts = both (nat_lt 0 (length (c ∷ cs)) && list_all is_ascii_digit (c ∷ cs)) (length (c ∷ cs) == 1 || not (slice_index (c ∷ cs) 0 == 48)) h in
    let front = both (nat_lt 0 (length (c ∷ cs))) (list_all is_ascii_digit (c ∷ cs)) parts.0 in
    record { some = refl; visible = all_visible is_ascii_digit digit_visible (c ∷ cs) front.1 }

number_digits : (n : ℕ) → n < 4294967296 → Digits (decimal n)
number_digits n small =
    digits_are (decimal n) (natural_is_number 0 4294967295 (decimal n)
    (natural_again 0 4294967295 n (omega arith) (omega arith) (omega arith)).0)

number_plain : (n : ℕ) → n < 4294967296 → is_plain (decimal n) ≡ true
number_plain n small =
    let d = number_digits n small in
    let size = length-decimal-le 10 n (omega arith) (omega arith) (omega arith) in
    let short : nat_le (length (decimal n)) 16 ≡ true = le-leb (length (decimal n)) 16 (omega arith) in
    rw (d.some, d.visible, short) refl

lettered_plain : (letter n : ℕ) → is_visible letter ≡ true → n < 4294967296 → is_plain (letter ∷ decimal n) ≡ true
lettered_plain letter n seen small =
    let d = number_digits n small in
    let size = length-decimal-le 10 n (omega arith) (omega arith) (omega arith) in
    let short : nat_le (length (letter ∷ decimal n)) 16 ≡ true = le-leb (length (letter ∷ decimal n)) 16 (omega arith) in
    rw (seen, d.visible, short) refl

signed_plain : (low high : ℕ) (z : ℤ) → low < 2147483648 → high < 2147483648
    → (int_le (negsuc low) z && int_le z (pos high)) ≡ true → is_plain (signed_decimal z) ≡ true
signed_plain low high (pos n) fits small h =
    let le = leb-true n high (both (int_le (negsuc low) (pos n)) (int_le (pos n) (pos high)) h).1 in
    number_plain n (omega arith)
signed_plain low high (negsuc n) fits small h =
    let le = leb-true n low (both (int_le (negsuc low) (negsuc n)) (int_le (negsuc n) (pos high)) h).0 in
    lettered_plain 45 (suc n) refl (omega arith)

-- arguments of messages
size_short : (n : ℕ) → is_size n ≡ true → length (decimal n) ≤ 4
size_short n h = let le = leb-true n 1024 h in length-decimal-le 4 n (omega arith) (omega arith) (omega arith)

size_visible : (n : ℕ) → is_size n ≡ true → list_all is_visible (decimal n) ≡ true
size_visible n h = let le = leb-true n 1024 h in (number_digits n (omega arith)).visible

arg_plain : (a : Arg) → is_arg a ≡ true → is_plain (arg_word a) ≡ true
arg_plain (arg.Number z) h = signed_plain 2147483647 2147483647 z (omega arith) (omega arith) h
arg_plain (arg.Descriptor x y z) h =
    let parts = both (is_size x && is_size y) (is_size z) h in
    let front = both (is_size x) (is_size y) parts.0 in
    let a = size_short x front.0 in
    let b = size_short y front.1 in
    let c = size_short z parts.1 in
    let one = visible_more (codes "d:") (decimal x) refl (size_visible x front.0) in
    let two = visible_more (codes "d:" ++ decimal x) (codes ":") one refl in
    let three = visible_more (codes "d:" ++ decimal x ++ codes ":") (decimal y) two (size_visible y front.1) in
    let four = visible_more (codes "d:" ++ decimal x ++ codes ":" ++ decimal y) (codes ":") three refl in
    let seen : list_all is_visible (arg_word (arg.Descriptor x y z)) ≡ true =
    visible_more (codes "d:" ++ decimal x ++ codes ":" ++ decimal y ++ codes ":") (decimal z) four
    (size_visible z parts.1) in
    let size : length (arg_word (arg.Descriptor x y z)) ≤ 16 = simp length-append (omega arith) in
    let short : nat_le (length (arg_word (arg.Descriptor x y z))) 16 ≡ true = le-leb (length (arg_word (arg.Descriptor x y z))) 16 size in
    rw (seen, short) refl

kind_plain : (what : Kind) → is_opened what ≡ true → is_plain (kind_word what) ≡ true
kind_plain kind.Server h = absurd (cc)
kind_plain kind.Session h = absurd (cc)
kind_plain _ h = refl

slots_plain : (s : Slots) → is_slots s ≡ true → is_plain (slots_word s) ≡ true
slots_plain (slots.Own n) h = let le = leb-true n 255 (both (nat_le 1 n) (nat_le n 255) h).1 in number_plain n (omega arith)
slots_plain slots.Pool h = refl

-- each operand
abbrev is_printable : Operand → Bool
is_printable (operand.Number low high) = nat_lt high 4294967296
is_printable (operand.Lettered letter last) = is_visible letter && nat_lt last 4294967296
is_printable _ = true

value_plain : (what : Operand) (v : Value what) → is_printable what ≡ true → is_value what v ≡ true → is_plain (value_word what v) ≡ true
value_plain (operand.Number low high) n fits h =
    let le = leb-true n high (both (nat_le low n) (nat_le n high) h).1 in
    let lt = ltb-true high 4294967296 fits in
    number_plain n (omega arith)
value_plain operand.Code z fits h = signed_plain 2147483645 2147483647 z (omega arith) (omega arith) h
value_plain (operand.Lettered letter last) n fits h =
    let f = both (is_visible letter) (nat_lt last 4294967296) fits in
    let le = leb-true n last h in
    let lt = ltb-true last 4294967296 f.1 in
    lettered_plain letter n f.0 (omega arith)
value_plain operand.Name name fits h = name_plain name h
value_plain operand.Category name fits h = category_plain name h
value_plain operand.Kind what fits h = kind_plain what h
value_plain operand.Slots s fits h = slots_plain s h
value_plain operand.Argument a fits h = arg_plain a h
value_plain _ n fits h = refl

values_plain : (operands : List Operand) (values : Values operands) → list_all is_printable operands ≡ true
    → are_values operands values ≡ true → ArePlain (value_words operands values)
values_plain [] values fits h = tt
values_plain (what ∷ operands) values fits h =
    let f = both (is_printable what) (list_all is_printable operands) fits in
    let parts = both (is_value what values.0) (are_values operands values.1) h in
    (value_plain what values.0 f.0 parts.0, values_plain operands values.1 f.1 parts.1)

-- the first word and the operands of every form
instr_first : (w : Word) → (is_plain (word_text w) ≡ true) × (is_skipped (word_text w ∷ []) ≡ false)
unfolding word_text
instr_first word.Create = (refl, refl)
instr_first _ = (refl, refl)

first_plain : (k : Keyword) → (is_plain (keyword_text k) ≡ true) × (is_skipped (keyword_text k ∷ []) ≡ false)
first_plain (key.Instr w) = instr_first w
first_plain key.Eka2 = (refl, refl)
first_plain _ = (refl, refl)

-- a line without a body has seven operands at most, and one with a body three
abbrev is_few : Option BodyKind → List Operand → Bool
is_few None operands = nat_le (length operands) 7
is_few (Some kind) operands = nat_le (length operands) 3

instr_few : (second : Bool) (w : Word) → (list_all is_printable (instr_operands w second) && is_few None (instr_operands w second)) ≡ true
instr_few true word.Create = refl
instr_few false word.Create = refl
instr_few second _ = refl

form_few : (second : Bool) (k : Keyword) → (list_all is_printable (operands_of k second) && is_few (body_of k second) (operands_of k second)) ≡ true
form_few true (key.Instr w) = instr_few true w
form_few false (key.Instr w) = instr_few false w
form_few _ _ = refl

-- bodies
abbrev behind_spaces : List (List ℕ) → List ℕ
behind_spaces words = flat_map (λ (w : List ℕ). 32 ∷ w) words

plain_more : (xs ys : List (List ℕ)) → ArePlain xs → ArePlain ys → ArePlain (xs ++ ys)
plain_more [] ys all more = more
plain_more (x ∷ xs) ys all more = (all.0, plain_more xs ys all.1 more)

record PlainOp (what : Op) : Type 0 where
  plain : ArePlain (op_words what)
  short : length (behind_spaces (op_words what)) ≤ 28

plain_short : (word : List ℕ) → is_plain word ≡ true → length word ≤ 16
plain_short word h = leb-true (length word) 16 (both (not (is_empty word) && list_all is_visible word) (nat_le (length word) 16) h).1

named_op : (what : Op) (first name : List ℕ) → op_words what ≡ first ∷ name ∷ [] → is_plain first ≡ true
    → length first ≤ 8 → is_object_name name ≡ true → PlainOp what
named_op what first name e seen small h =
    let n = name_plain name h in
    let size = plain_short name n in
    record { plain = subst ArePlain (sym e) (seen, (n, tt)); short = rw e (simp length-append (omega arith)) }

op_plain : (kind : BodyKind) (what : Op) → is_op kind what ≡ true → PlainOp what
op_plain body.Interrupt (op.Idfc name) h = named_op (op.Idfc name) (codes "idfc") name refl refl (omega arith) h
op_plain body.Interrupt (op.Dfc name) h = named_op (op.Dfc name) (codes "dfc") name refl refl (omega arith) h
op_plain body.Call (op.Fssignal name) h = named_op (op.Fssignal name) (codes "fssignal") name refl refl (omega arith) h
op_plain body.Call (op.Queue name) h = named_op (op.Queue name) (codes "queue") name refl refl (omega arith) h
op_plain body.Call (op.Device x z) h =
    let parts = both (nat_le x 15) (int_le (negsuc 2147483645) z && int_le z (pos 2147483647)) h in
    let le = leb-true x 15 parts.0 in
    let number = lettered_plain 100 x refl (omega arith) in
    let code = signed_plain 2147483645 2147483647 z (omega arith) (omega arith) parts.1 in
    let size = length-decimal-le 2 x (omega arith) (omega arith) (omega arith) in
    let wide = plain_short (signed_decimal z) code in
    record { plain = (refl, (number, (code, tt))); short = simp length-append (omega arith) }
op_plain _ what h = absurd (cc)

record PlainBody (ops : List Op) : Type 0 where
  plain : ArePlain (body_words ops)
  short : length (behind_spaces (body_words ops)) ≤ 30 * length ops

body_plain : (kind : BodyKind) (ops : List Op) → list_all (is_op kind) ops ≡ true → PlainBody ops
body_plain kind [] h = record { plain = tt; short = omega arith }
body_plain kind (what ∷ []) h =
    let p = op_plain kind what (both (is_op kind what) true h).0 in
    let small = p.short in
    record { plain = p.plain; short = omega arith }
body_plain kind (what ∷ next ∷ ops) h =
    let parts = both (is_op kind what) (list_all (is_op kind) (next ∷ ops)) h in
    let p = op_plain kind what parts.0 in
    let later = body_plain kind (next ∷ ops) parts.1 in
    let small = p.short in
    let more = later.short in
    record {
      plain = plain_more (op_words what) (codes ";" ∷ body_words (next ∷ ops)) p.plain (refl, later.plain);
      short = simp (flat_map-append, length-append) (omega arith);
    }

-- the words of a line that are told and may be printed
pub record ArePrinted (words : List (List ℕ)) : Type 0 where
  pub told : is_skipped words ≡ false
  pub some : 0 < length words
  pub short : length (spaced words) ≤ 200
  pub plain : ArePlain words

first_told : (first : List ℕ) (words : List (List ℕ)) → is_skipped (first ∷ []) ≡ false → is_skipped (first ∷ words) ≡ false
first_told [] words h = refl
first_told (c ∷ cs) words h = h

line_by : (kind : Option BodyKind) (operands : List Operand) (first : List ℕ) (values : Values operands) (ops : List Op)
    → (list_all is_printable operands && is_few kind operands) ≡ true → is_plain first ≡ true
    → is_skipped (first ∷ []) ≡ false → are_values operands values ≡ true → is_body kind ops ≡ true → length ops ≤ 4
    → ArePrinted (first ∷ (value_words operands values ++ body_words ops))
line_by None operands first values (what ∷ ops) few seen told range right four = absurd (cc)
line_by None operands first values [] few seen told range right four =
    let f = both (list_all is_printable operands) (nat_le (length operands) 7) few in
    let plain = values_plain operands values f.0 range in
    let size = more_short (value_words operands values) plain in
    let count = values_size operands values in
    let at_most = leb-true (length operands) 7 f.1 in
    let small = plain_short first seen in
    record {
      told = first_told first (value_words operands values ++ []) told;
      some = omega arith;
      short = simp (flat_map-append, length-append) (omega arith);
      plain = (seen, plain_more (value_words operands values) [] plain tt);
    }
line_by (Some kind) operands first values [] few seen told range right four = absurd (cc)
line_by (Some kind) operands first values (what ∷ ops) few seen told range right four =
    let f = both (list_all is_printable operands) (nat_le (length operands) 3) few in
    let plain = values_plain operands values f.0 range in
    let size = more_short (value_words operands values) plain in
    let count = values_size operands values in
    let at_most = leb-true (length operands) 3 f.1 in
    let small = plain_short first seen in
    let b = body_plain kind (what ∷ ops) right in
    let body_size = b.short in
    record {
      told = first_told first (value_words operands values ++ body_words (what ∷ ops)) told;
      some = omega arith;
      short = simp (flat_map-append, length-append) (omega arith);
      plain = (seen, plain_more (value_words operands values) (body_words (what ∷ ops)) plain b.plain);
    }

pub line_printed : (l : SourceLine) → is_source_line l ≡ true → length (form_of l).body ≤ 4 → ArePrinted (source_words l)
line_printed l v four =
    let f = form_of l in
    let parts = both (are_values (operands_of f.keyword f.second) f.values) (is_body (body_of f.keyword f.second) f.body) v in
    let first = first_plain f.keyword in
    line_by (body_of f.keyword f.second) (operands_of f.keyword f.second) (keyword_text f.keyword) f.values f.body
    (form_few f.second f.keyword) first.0 first.1 parts.0 parts.1 four
