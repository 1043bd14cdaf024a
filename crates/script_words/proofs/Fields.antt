-- Words that have a form and a range are spelled so, and words that are spelled have them.
use Rattle.std.proofs.Common.{◌≡◌, ℕ, ◌^◌, ◌<◌, ◌≤◌, Bool, true, false, List, [], ◌∷◌, length, refl, ap, ◌∙◌, arith, Some}
use Rattle.std.proofs.lemmas.Bool.{leb-true, le-leb}
use Rattle.std.proofs.lemmas.Bool.Decides.{nat_tests}
use Rattle.std.specs.Char.{is_ascii_digit}
use Rattle.std.specs.List.{list_all}
use Rattle.std.specs.Prelude.{◌==◌, ◌&&◌, decimal, nat_le, nat_lt}
use Rattle.std.specs.Str.Parse.{digits_value}
use Rattle.script_words.specs.Fields.{is_number, number_of}
use Rattle.script_words.specs.Signs.{is_signed, is_natural, is_lettered, is_lettered_within, lettered_value}
use Rattle.script_words.proofs.Numbers.{number_takes, number_again}
use Rattle.script_words.proofs.Steps.{both, guard_some}

-- a number in its range
some_number : (max : ℕ) (word : List ℕ) (b : Bool) → (is_number word && nat_le (digits_value 10 word) max) ≡ b
    → b ≡ true → number_of max word ≡ Some (digits_value 10 word)
unfolding number_of
some_number max word b e h = rw (e ∙ h) refl

pub natural_takes : (low high : ℕ) (word : List ℕ) → high < 2 ^ 32 → is_natural low high word ≡ true
    → (word ≡ decimal (digits_value 10 word)) × (low ≤ digits_value 10 word) × (digits_value 10 word ≤ high)
natural_takes low high word small h =
    let parts = both (is_number word && nat_le (digits_value 10 word) high) (nat_le low (digits_value 10 word)) h in
    let found = number_takes high word (digits_value 10 word) small (some_number high word true parts.0 refl) in
    (found.0, leb-true low (digits_value 10 word) parts.1, found.1)

pub number_is : (max n : ℕ) → number_of max (decimal n) ≡ Some n
    → ((is_number (decimal n) && nat_le (digits_value 10 (decimal n)) max) ≡ true) × (digits_value 10 (decimal n) ≡ n)
unfolding number_of
number_is max n h = guard_some (is_number (decimal n) && nat_le (digits_value 10 (decimal n)) max) (digits_value 10 (decimal n)) n h

pub natural_again : (low high n : ℕ) → high < 2 ^ 32 → low ≤ n → n ≤ high → (is_natural low high (decimal n) ≡ true) × (digits_value 10 (decimal n) ≡ n)
natural_again low high n small over under =
    let found = number_is high n (number_again high n small under) in
    let value = found.1 in
    let above : nat_le low (digits_value 10 (decimal n)) ≡ true = le-leb low (digits_value 10 (decimal n)) (omega arith) in
    (rw (found.0, above) refl, value)

-- a number without a sign is a number
pub no_sign : (c : ℕ) (digits : List ℕ) → list_all is_ascii_digit (c ∷ digits) ≡ true → (c == 45) ≡ false
no_sign c digits h = let parts = both (is_ascii_digit c) (list_all is_ascii_digit digits) h in let first = parts.0 in grind (arith, nat_tests)

pub number_is_signed : (word : List ℕ) → is_number word ≡ true → is_signed word ≡ true
number_is_signed [] h = absurd (cc)
number_is_signed (c ∷ digits) h =
    let parts = both (nat_lt 0 (length (c ∷ digits)) && list_all is_ascii_digit (c ∷ digits)) _ h in
    let front = both (nat_lt 0 (length (c ∷ digits))) (list_all is_ascii_digit (c ∷ digits)) parts.0 in
    rw (no_sign c digits front.1) h

pub natural_is_number : (low high : ℕ) (word : List ℕ) → is_natural low high word ≡ true → is_number word ≡ true
natural_is_number low high word h =
    let parts = both (is_number word && nat_le (digits_value 10 word) high) (nat_le low (digits_value 10 word)) h in
    (both (is_number word) (nat_le (digits_value 10 word) high) parts.0).0

-- a letter and a number in its range
same_letter : (c letter : ℕ) → (c == letter) ≡ true → c ≡ letter
same_letter c letter h = grind (arith, nat_tests)

pub lettered_takes : (letter last : ℕ) (word : List ℕ) → last < 2 ^ 32 → is_lettered letter word ≡ true
    → is_lettered_within last word ≡ true
    → (word ≡ letter ∷ decimal (lettered_value word)) × (lettered_value word ≤ last)
lettered_takes letter last [] small form range = absurd (cc)
lettered_takes letter last (c ∷ digits) small form range =
    let parts = both (c == letter) (is_number digits) form in
    let found = natural_takes 0 last digits small range in
    let first = same_letter c letter parts.0 in
    (ap (λ (d : ℕ). d ∷ digits) first ∙ ap (λ (ds : List ℕ). letter ∷ ds) found.0, found.2)

pub lettered_again : (letter last n : ℕ) → last < 2 ^ 32 → n ≤ last
    → (is_lettered letter (letter ∷ decimal n) ≡ true) × (is_lettered_within last (letter ∷ decimal n) ≡ true)
    × (lettered_value (letter ∷ decimal n) ≡ n)
lettered_again letter last n small under =
    let found = natural_again 0 last n small (omega arith) under in
    let here : (letter == letter) ≡ true = grind (arith, nat_tests) in
    (rw (here, natural_is_number 0 last (decimal n) found.0) refl, found.0, found.1)
