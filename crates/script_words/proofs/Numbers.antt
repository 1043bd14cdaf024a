-- Digits, and the numbers that they spell.
use Rattle.std.proofs.Common.{◌≡◌, ℕ, add-one, ◌+◌, ◌-◌, ◌*◌, ◌^◌, ◌<◌, ◌≤◌, Bool, true, false, List, [], ◌∷◌, length, take, drop, get_or, zero, suc, eqb, refl, sym, subst, ap, ◌∙◌, arith, Option, Some, None}
use Rattle.std.proofs.lemmas.Bool.{ltb-true, lt-ltb, leb-true, le-leb}
use Rattle.std.proofs.lemmas.Bool.Decides.{nat_tests}
use Rattle.std.proofs.lemmas.Fmt.{decimal-digits_value, digits_decimal, digits_value-decimal, decimal_nonempty, first_decimal, decimal_digit}
use Rattle.std.proofs.lemmas.Int.Digits.{digits_value_more}
use Rattle.std.proofs.lemmas.Str.{digit_value_digit}
use Rattle.std.proofs.lemmas.Str.Parse.{IsNumeralModel, numerals_by_value, tells_all_ascii_digits, digits_value-take-le}
use Rattle.std.specs.Char.{is_ascii_digit, digit_value}
use Rattle.std.specs.List.{list_all}
use Rattle.std.specs.Prelude.{IsTrue, if◌then◌else◌, ◌&&◌, ◌||◌, ◌==◌, not, nat_lt, nat_le, slice_index, decimal}
use Rattle.std.specs.Str.{all_ascii_digits}
use Rattle.std.specs.Str.Parse.{digits_value}
use Rattle.script_words.specs.Fields.{is_number, number_of}
use Rattle.script_words.proofs.Steps.{both, guard_some}
use Rattle.std.proofs.Math.Bool.{and-false, or-true}

same_digits : (ds : List ℕ) → list_all is_ascii_digit ds ≡ all_ascii_digits ds
same_digits [] = refl
same_digits (d ∷ ds) = rw (same_digits ds) refl

pub own : IsNumeralModel (λ ds. all_ascii_digits ds ≡ true) (digits_value 10)
own = numerals_by_value (λ ds. all_ascii_digits ds ≡ true) tells_all_ascii_digits

all_digits : (ds : List ℕ) → IsTrue (list_all is_ascii_digit ds) → all_ascii_digits ds ≡ true
all_digits ds h = sym (same_digits ds) ∙ h

no_zero_before : (size first : ℕ) → (size == 1 || not (first == 48)) ≡ true → first ≡ 48 → size ≡ 1
no_zero_before size first h is_zero = grind (arith, nat_tests)

-- a number that is read is what its digits spell
pub number_takes : (max : ℕ) (word : List ℕ) (n : ℕ) → max < 2 ^ 32 → number_of max word ≡ Some n → (word ≡ decimal n) × (n ≤ max)
unfolding number_of
number_takes max word n small e =
    let found = guard_some (is_number word && nat_le (digits_value 10 word) max) (digits_value 10 word) n e in
    let tests = both (is_number word) (nat_le (digits_value 10 word) max) found.0 in
    let parts = both (nat_lt 0 (length word) && list_all is_ascii_digit word) (length word == 1 || not (slice_index word 0 == 48)) tests.0 in
    let front = both (nat_lt 0 (length word)) (list_all is_ascii_digit word) parts.0 in
    let some : 0 < length word = ltb-true 0 (length word) front.0 in
    let le : digits_value 10 word ≤ max = leb-true (digits_value 10 word) max tests.1 in
    let first = no_zero_before (length word) (get_or word 0 0) parts.1 in
    let text = decimal-digits_value own word (all_digits word front.1) some first (omega arith) in
    (sym text ∙ ap decimal found.1, subst (λ (m : ℕ). m ≤ max) found.1 le)

no_leading_zero : (n : ℕ) → n < 2 ^ 64 → (length (decimal n) == 1 || not (slice_index (decimal n) 0 == 48)) ≡ true
no_leading_zero zero small = rw (decimal_digit 0 (omega arith)) refl
no_leading_zero (suc n) small =
    let first = first_decimal (suc n) (omega arith) small in
    let other : eqb (get_or (decimal (suc n)) 0 0) 48 ≡ false = grind (arith, nat_tests) in
    rw other (or-true (length (decimal (suc n)) == 1))

-- a number's digits are read
pub number_again : (max n : ℕ) → max < 2 ^ 32 → n ≤ max → number_of max (decimal n) ≡ Some n
unfolding number_of
number_again max n small le =
    let fits : n < 2 ^ 64 = omega arith in
    let some : nat_lt 0 (length (decimal n)) ≡ true = lt-ltb 0 (length (decimal n)) (decimal_nonempty n fits) in
    let digits : list_all is_ascii_digit (decimal n) ≡ true = same_digits (decimal n) ∙ digits_decimal own n fits in
    let value : digits_value 10 (decimal n) ≡ n = digits_value-decimal own n fits in
    let low : nat_le n max ≡ true = le-leb n max le in
    rw (some, digits, no_leading_zero n fits, value, low) refl

-- one digit more
digit_more : (digits : List ℕ) (i : ℕ) → i < length digits → is_ascii_digit (get_or digits i 0) ≡ true
    → digits_value 10 (take (i + 1) digits) ≡ digits_value 10 (take i digits) * 10 + (get_or digits i 0 - 48)
digit_more digits i within digit =
    let d : ℕ = get_or digits i 0 in
    let range = both (nat_le 48 d) (nat_le d 57) digit in
    let low : 48 ≤ d = leb-true 48 d range.0 in
    let high : d ≤ 57 = leb-true d 57 range.1 in
    let value : digit_value d + 48 ≡ d = digit_value_digit d (low, high) in
    let same : digit_value d ≡ d - 48 = omega arith in
    digits_value_more 10 digits i within ∙ ap (λ (n : ℕ). digits_value 10 (take i digits) * 10 + n) same

-- whether the bytes from a place on are digits
digits_from : (digits : List ℕ) (i : ℕ) → i < length digits
    → list_all is_ascii_digit (drop i digits)
    ≡ (is_ascii_digit (get_or digits i 0) && list_all is_ascii_digit (drop (suc i) digits))
digits_from [] i within = absurd (omega arith)
digits_from (d ∷ ds) zero within = refl
digits_from (d ∷ ds) (suc i) within = digits_from ds i (omega arith)

-- the number that digits spell, where it is at most the greatest
abbrev pub digits_within : ℕ → List ℕ → Option ℕ
digits_within max digits = if list_all is_ascii_digit digits && nat_le (digits_value 10 digits) max then Some (digits_value 10 digits) else None

-- a number so far, with the digits behind it
pub record IsDigitsSo (max : ℕ) (digits : List ℕ) (i number : ℕ) : Type 0 where
  pub value : number ≡ digits_value 10 (take i digits)
  pub within : number ≤ max
  pub left : list_all is_ascii_digit (drop i digits) ≡ list_all is_ascii_digit digits

abbrev pub more_of : ℕ → ℕ → ℕ → Option ℕ
more_of max number d = if is_ascii_digit d && nat_le (number * 10 + (d - 48)) max then Some (number * 10 + (d - 48)) else None

-- another byte, or a number that is too great
none_within : (max : ℕ) (digits : List ℕ) (a b : Bool) → list_all is_ascii_digit digits ≡ a
    → nat_le (digits_value 10 digits) max ≡ b → (a && b) ≡ false → None ≡ digits_within max digits
none_within max digits true true e f h = absurd (cc)
none_within max digits true false e f h = rw (e, f) refl
none_within max digits false b e f h = rw e refl

none_by : (max : ℕ) (digits : List ℕ) (i number : ℕ) (digit fits : Bool) → IsDigitsSo max digits i number
    → i < length digits → is_ascii_digit (get_or digits i 0) ≡ digit
    → nat_le (number * 10 + (get_or digits i 0 - 48)) max ≡ fits
    → (if digit && fits then Some (number * 10 + (get_or digits i 0 - 48)) else None) ≡ None
    → None ≡ digits_within max digits
none_by max digits i number false fits so within d f h =
    let others : list_all is_ascii_digit digits ≡ false = sym so.left ∙ digits_from digits i within ∙ rw d refl in
    rw others refl
none_by max digits i number true false so within d f h =
    let value = so.value in
    let more = digit_more digits i within d in
    let rest = digits_value-take-le 10 digits (i + 1) (omega arith) in
    let great : nat_le (digits_value 10 digits) max ≡ false = grind (arith, nat_tests) in
    rw (great, and-false (list_all is_ascii_digit digits)) refl
none_by max digits i number true true so within d f h = absurd (cc)

pub digits_none : (max : ℕ) (digits : List ℕ) (i number d : ℕ) → IsDigitsSo max digits i number → i < length digits
    → d ≡ get_or digits i 0 → None ≡ more_of max number d → None ≡ digits_within max digits
digits_none max digits i number d so within is h =
    none_by max digits i number (is_ascii_digit (get_or digits i 0))
    (nat_le (number * 10 + (get_or digits i 0 - 48)) max) so within refl refl (sym (h ∙ ap (more_of max number) is))

-- one more digit
more_by : (max : ℕ) (digits : List ℕ) (i number more : ℕ) (digit fits : Bool) → IsDigitsSo max digits i number
    → i < length digits → is_ascii_digit (get_or digits i 0) ≡ digit
    → nat_le (number * 10 + (get_or digits i 0 - 48)) max ≡ fits
    → (if digit && fits then Some (number * 10 + (get_or digits i 0 - 48)) else None) ≡ Some more
    → IsDigitsSo max digits (i + 1) more
more_by max digits i number more false fits so within d f h = absurd (cc)
more_by max digits i number more true false so within d f h = absurd (cc)
more_by max digits i number more true true so inside d f h =
    let is : number * 10 + (get_or digits i 0 - 48) ≡ more = cc in
    let value = so.value in
    let sum = digit_more digits i inside d in
    let low : number * 10 + (get_or digits i 0 - 48) ≤ max = leb-true (number * 10 + (get_or digits i 0 - 48)) max f in
    let fits : more ≤ max = omega arith in
    let all : more ≡ digits_value 10 (take (i + 1) digits) = omega arith in
    record {
      value = all;
      within = fits;
      left =
          ap (λ (n : ℕ). list_all is_ascii_digit (drop n digits)) (add-one i)
          ∙ sym (digits_from digits i inside ∙ rw d refl)
          ∙ so.left;
    }

pub digits_more : (max : ℕ) (digits : List ℕ) (i number d more : ℕ) → IsDigitsSo max digits i number → i < length digits
    → d ≡ get_or digits i 0 → Some more ≡ more_of max number d → IsDigitsSo max digits (i + 1) more
digits_more max digits i number d more so within is h =
    more_by max digits i number more (is_ascii_digit (get_or digits i 0))
    (nat_le (number * 10 + (get_or digits i 0 - 48)) max) so within refl refl (sym (h ∙ ap (more_of max number) is))

-- before the first digit, and behind the last
pub digits_start : (max : ℕ) (digits : List ℕ) → IsDigitsSo max digits 0 0
digits_start max digits = record { value = refl; within = omega arith; left = refl }

whole : (digits : List ℕ) → (take (length digits) digits ≡ digits) × (drop (length digits) digits ≡ [])
whole [] = (refl, refl)
whole (d ∷ ds) = (ap (λ (xs : List ℕ). d ∷ xs) (whole ds).0, (whole ds).1)

pub digits_end : (max : ℕ) (digits : List ℕ) (i number : ℕ) → IsDigitsSo max digits i number → i ≡ length digits → Some number ≡ digits_within max digits
digits_end max digits i number so is =
    let ends = whole digits in
    let all : list_all is_ascii_digit digits
    ≡ true = sym (sym (ap (λ (n : ℕ). list_all is_ascii_digit (drop n digits)) is ∙ ap (list_all is_ascii_digit) ends.1)
    ∙ so.left) in
    let value : number ≡ digits_value 10 digits = so.value ∙ ap (λ (n : ℕ). digits_value 10 (take n digits)) is ∙ ap (digits_value 10) ends.0 in
    let within = so.within in
    let fits : nat_le (digits_value 10 digits) max ≡ true = le-leb (digits_value 10 digits) max (omega arith) in
    rw (all, fits) (ap Some value)
