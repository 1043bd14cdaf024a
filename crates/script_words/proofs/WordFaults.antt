-- What is wrong with words, found at one look: a word in its range has its form.
use Rattle.std.proofs.Common.{◌≡◌, ℕ, zero, suc, ◌<◌, Bool, true, false, List, [], ◌∷◌, drop, get_or, length, arith, refl, sym, subst, ap, ◌∙◌, Option, Some, None}
use Rattle.std.specs.Prelude.{◌&&◌, ◌==◌, not, nat_le, codes}
use Rattle.std.specs.Option.{is_some}
use Rattle.std.specs.Borrow.{Bor}
use Rattle.std.specs.List.{list_all}
use Rattle.std.specs.Str.{bytes_eq}
use Rattle.std.specs.Str.Parse.{digits_value}
use Rattle.script_words.specs.Faults.{fault_by, both_faults, is_of_form}
use Rattle.script_words.specs.Fields.{is_number}
use Rattle.script_words.specs.LineSigns.{all_pass_as, body_part, is_op, operations}
use Rattle.script_words.specs.Pieces.{pieces}
use Rattle.script_words.specs.Signs.{is_signed, is_natural, is_between, is_lettered, is_lettered_within, is_number_word, is_size_word, are_arg_parts, colon_parts, each_passes, has_form, is_in_range}
use Rattle.script_words.specs.declared.fault.Fault.{Fault}
use Rattle.script_words.proofs.Fields.{natural_is_number, number_is_signed}
use Rattle.script_words.proofs.Steps.{both, by_test, same_bytes}
use Rattle.script_types.specs.Forms.{operands_of, body_of}
use Rattle.script_types.specs.declared.keyword.Keyword.{Keyword}
use Rattle.script_types.specs.declared.operand.BodyKind.{BodyKind}
use Rattle.script_types.specs.declared.operand.Operand.{Operand}
use Rattle.script_types.specs.declared.operand.Operand.TheVariants as operand
use Rattle.std.proofs.Math.Bool.{and-true}

pub right : (form range : Bool) → form ≡ true → range ≡ true → None ≡ fault_by form range
right form range f r = rw (f, r) refl

pub passed : (form range : Bool) → fault_by form range ≡ None → (form ≡ true) × (range ≡ true)
passed false range h = absurd (cc)
passed true false h = absurd (cc)
passed true true h = (refl, refl)

-- a number in its range
signed_natural : (low high : ℕ) (word : List ℕ) → is_natural low high word ≡ true → is_signed word ≡ true
signed_natural low high word h = number_is_signed word (natural_is_number low high word h)

pub natural_right : (low high : ℕ) (word : List ℕ) → is_natural low high word ≡ true → None ≡ fault_by (is_signed word) (is_natural low high word)
natural_right low high word h = right (is_signed word) (is_natural low high word) (signed_natural low high word h) h

-- a number with a sign in its range
not_zero : (low high : ℕ) (digits : List ℕ) → is_natural 1 high digits ≡ true → bytes_eq digits (codes "0") ≡ false
not_zero low high digits h =
    by_test {P = bytes_eq digits (codes "0") ≡ false} (bytes_eq digits (codes "0"))
    (λ e. let bad : is_natural 1 high (codes "0") ≡ true = subst (λ (ds : List ℕ). is_natural 1 high ds ≡ true) (same_bytes digits (codes "0") e) h in
    let last = both (is_number (codes "0") && nat_le (digits_value 10 (codes "0")) high) (nat_le 1 (digits_value 10 (codes "0"))) bad in
    absurd (cc))
    (λ e. e)

signed_between : (below above : ℕ) (word : List ℕ) → is_between below above word ≡ true → is_signed word ≡ true
signed_between below above [] h = absurd (cc)
signed_between below above (c ∷ digits) h =
    by_test {P = is_signed (c ∷ digits) ≡ true} (c == 45)
    (λ e.
    let n : is_natural 1 below digits ≡ true = rw e at h in
    let other = not_zero 1 below digits n in
    rw (e, natural_is_number 1 below digits n, other) refl)
    (λ e. let n : is_natural 0 above (c ∷ digits) ≡ true = rw e at h in rw e (natural_is_number 0 above (c ∷ digits) n))

pub between_right : (below above : ℕ) (word : List ℕ) → is_between below above word ≡ true → None ≡ fault_by (is_signed word) (is_between below above word)
between_right below above word h = right (is_signed word) (is_between below above word) (signed_between below above word h) h

-- a letter and a number in its range
pub lettered_right : (letter last c : ℕ) (digits : List ℕ) → (c == letter) ≡ true → is_natural 0 last digits ≡ true
    → None ≡ fault_by (is_lettered letter (c ∷ digits)) (is_lettered_within last (c ∷ digits))
lettered_right letter last c digits e h =
    let number = natural_is_number 0 last digits h in
    right (is_lettered letter (c ∷ digits)) (is_lettered_within last (c ∷ digits)) (rw (e, number) refl) h

-- an argument in its range
signed_number : (word : List ℕ) → is_number_word word ≡ true → is_signed word ≡ true
signed_number word h = signed_between 2147483648 2147483647 word h

signed_size : (word : List ℕ) → is_size_word word ≡ true → is_signed word ≡ true
signed_size word h = signed_natural 0 1024 word h

argument_parts : (parts : List (List ℕ)) → are_arg_parts is_number_word is_size_word parts ≡ true → are_arg_parts is_signed is_signed parts ≡ true
argument_parts [] h = absurd (cc)
argument_parts (word ∷ []) h = signed_number word h
argument_parts (d ∷ a ∷ []) h = absurd (cc)
argument_parts (d ∷ a ∷ b ∷ []) h = absurd (cc)
argument_parts (d ∷ a ∷ b ∷ c ∷ []) h =
    let last = both (bytes_eq d (codes "d") && is_size_word a && is_size_word b) (is_size_word c) h in
    let third = both (bytes_eq d (codes "d") && is_size_word a) (is_size_word b) last.0 in
    let second = both (bytes_eq d (codes "d")) (is_size_word a) third.0 in
    rw (second.0, signed_size a second.1, signed_size b third.1, signed_size c last.1) refl
argument_parts (d ∷ a ∷ b ∷ c ∷ e ∷ more) h = absurd (cc)

pub argument_right : (word : List ℕ) → are_arg_parts is_number_word is_size_word (colon_parts word) ≡ true
    → None ≡ fault_by (has_form operand.Argument word) (is_in_range operand.Argument word)
argument_right word h = right (has_form operand.Argument word) (is_in_range operand.Argument word) (argument_parts (colon_parts word) h) h

-- words with a body, and without one
pub joined : (f r form range : Bool) → both_faults (fault_by f r) (fault_by form range) ≡ fault_by (f && form) (r && range)
joined true false true false = refl
joined _ _ _ _ = refl

pub line_without : (k : Keyword) (second : Bool) (words : List (List ℕ)) → body_of k second ≡ None
    → fault_by (each_passes has_form (operands_of k second) (drop 1 words))
    (each_passes is_in_range (operands_of k second) (drop 1 words))
    ≡ fault_by (all_pass_as has_form k second words) (all_pass_as is_in_range k second words)
line_without k second words none =
    let f = and-true (each_passes has_form (operands_of k second) (drop 1 words)) in
    let r = and-true (each_passes is_in_range (operands_of k second) (drop 1 words)) in
    rw (none, f, r) refl

pub line_with : (k : Keyword) (second : Bool) (words : List (List ℕ)) (kind : BodyKind) → body_of k second ≡ Some kind
    → both_faults (fault_by (each_passes has_form (operands_of k second) (drop 1 words))
    (each_passes is_in_range (operands_of k second) (drop 1 words)))
    (fault_by (list_all (is_op has_form kind) (operations (body_part (operands_of k second) words)))
    (list_all (is_op is_in_range kind) (operations (body_part (operands_of k second) words))))
    ≡ fault_by (all_pass_as has_form k second words) (all_pass_as is_in_range k second words)
line_with k second words kind some =
    let f = each_passes has_form (operands_of k second) (drop 1 words) in
    let r = each_passes is_in_range (operands_of k second) (drop 1 words) in
    let part = operations (body_part (operands_of k second) words) in
    rw some (joined f r (list_all (is_op has_form kind) part) (list_all (is_op is_in_range kind) part))

-- the first of the words that are left
pub next_word : (test : Operand → List ℕ → Bool) (operands : List Operand) (words : List (Bor (List ℕ))) (i : ℕ)
    (d : Operand) (e : Bor (List ℕ))
    → i < length operands → i < length words
    → each_passes test (drop i operands) (pieces (drop i words))
    ≡ (test (get_or operands i d) (get_or words i e).now && each_passes test (drop (suc i) operands)
    (pieces (drop (suc i) words)))
next_word test [] words i d e some left = absurd (omega arith)
next_word test (o ∷ os) [] i d e some left = absurd (omega arith)
next_word test (o ∷ os) (w ∷ ws) zero d e some left = refl
next_word test (o ∷ os) (w ∷ ws) (suc i) d e some left = next_word test os ws i d e (omega arith) (omega arith)

-- a word has its form
and_same : (before f r : Bool) → fault_by f (before && r) ≡ fault_by f ((before && true) && r)
and_same true f r = refl
and_same false f r = refl

and_none : (before f r : Bool) → fault_by f (before && false) ≡ fault_by f ((before && false) && r)
and_none true f r = refl
and_none false f r = refl

kept : (form range before f r : Bool) (found : Option Fault) (none : Bool) → found ≡ fault_by form range
    → is_of_form found ≡ false → is_some found ≡ not none
    → fault_by (form && f) (before && (range && r)) ≡ fault_by f ((before && none) && r)
kept false range before f r found none is form free = let bad : true ≡ false = ap is_of_form (sym is) ∙ form in absurd (cc)
kept true true before f r found true is form free = and_same before f r
kept true true before f r found false is form free = let bad : false ≡ true = ap is_some (sym is) ∙ free in absurd (cc)
kept true false before f r found true is form free = let bad : true ≡ false = ap is_some (sym is) ∙ free in absurd (cc)
kept true false before f r found false is form free = and_none before f r

pub word_kept : (operands : List Operand) (words : List (Bor (List ℕ))) (i : ℕ) (d : Operand) (e : Bor (List ℕ))
    (before none : Bool) (found : Option Fault)
    → i < length operands → i < length words
    → found ≡ fault_by (has_form (get_or operands i d) (get_or words i e).now)
    (is_in_range (get_or operands i d) (get_or words i e).now) → is_of_form found ≡ false → is_some found ≡ not none
    → fault_by (each_passes has_form (drop i operands) (pieces (drop i words))) (before && each_passes is_in_range (drop i operands) (pieces (drop i words)))
    ≡ fault_by (each_passes has_form (drop (suc i) operands) (pieces (drop (suc i) words)))
    ((before && none) && each_passes is_in_range (drop (suc i) operands) (pieces (drop (suc i) words)))
word_kept operands words i d e before none found some left is form free =
    let f = next_word has_form operands words i d e some left in
    let r = next_word is_in_range operands words i d e some left in
    rw (f, r) (kept (has_form (get_or operands i d) (get_or words i e).now)
    (is_in_range (get_or operands i d) (get_or words i e).now) before
    (each_passes has_form (drop (suc i) operands) (pieces (drop (suc i) words)))
    (each_passes is_in_range (drop (suc i) operands) (pieces (drop (suc i) words))) found none is form free)

-- a word hasn't its form
formless : (form range : Bool) (found : Option Fault) → found ≡ fault_by form range → is_of_form found ≡ true → form ≡ false
formless false range found is form = refl
formless true false found is form = let bad : false ≡ true = ap is_of_form (sym is) ∙ form in absurd (cc)
formless true true found is form = let bad : false ≡ true = ap is_of_form (sym is) ∙ form in absurd (cc)

pub word_bad : (operands : List Operand) (words : List (Bor (List ℕ))) (i : ℕ) (d : Operand) (e : Bor (List ℕ))
    (found : Option Fault)
    → i < length operands → i < length words
    → found ≡ fault_by (has_form (get_or operands i d) (get_or words i e).now)
    (is_in_range (get_or operands i d) (get_or words i e).now) → is_of_form found ≡ true
    → each_passes has_form (drop i operands) (pieces (drop i words)) ≡ false
word_bad operands words i d e found some left is form =
    let f = next_word has_form operands words i d e some left in
    let none = formless (has_form (get_or operands i d) (get_or words i e).now) (is_in_range (get_or operands i d) (get_or words i e).now) found is form in
    rw (f, none) refl
