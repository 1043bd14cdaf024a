-- Which bytes stand in which texts.
use Rattle.entry_log.specs.Joined.{joined, preceded}
use Rattle.std.proofs.Common.{◌≡◌, ℕ, suc, ◌<◌, ◌^◌, Bool, true, false, not, ◌&&◌, ◌||◌, List, [], ◌∷◌, ◌++◌, refl, decimal, nat_eq, arith, ℤ, pos, negsuc}
use Rattle.std.proofs.lemmas.Bool.Decides.{nat_tests}
use Rattle.std.proofs.lemmas.Fmt.{digits_decimal, digits_value-decimal}
use Rattle.std.proofs.lemmas.List.Elements.{All-cons}
use Rattle.std.proofs.lemmas.List.Folds.{list_all-append}
use Rattle.std.proofs.lemmas.Str.Parse.{IsNumeralModel, numerals_by_value, tells_all_ascii_digits}
use Rattle.std.specs.Fmt.{signed_decimal}
use Rattle.std.specs.List.{All, list_all}
use Rattle.std.specs.Int.Signed.{mag}
use Rattle.std.specs.Str.{all_ascii_digits}
use Rattle.std.specs.Str.Parse.{digits_value}
use Rattle.std.specs.Char.{is_ascii_digit}
use Rattle.sym_base.specs.NameText.{name_byte}

pub both : (a b : Bool) → (a && b) ≡ true → (a ≡ true) × (b ≡ true)
both true b h = (refl, h)
both false b h = cc

-- the bytes of a field of an effect, and of a step
abbrev pub field_byte : ℕ → Bool
field_byte c = name_byte c || nat_eq c 46 || nat_eq c 43

-- the bytes of an entry's words
abbrev pub word_byte : ℕ → Bool
word_byte c = field_byte c || nat_eq c 58 || nat_eq c 61

-- the bytes of an entry's line before its LF
abbrev pub line_byte : ℕ → Bool
line_byte c = word_byte c || nat_eq c 32

-- a text without this byte
abbrev pub free : ℕ → List ℕ → Bool
free c text = list_all (λ b. not (nat_eq b c)) text

pub list_all_two : (p : ℕ → Bool) (xs ys : List ℕ) → list_all p xs ≡ true → list_all p ys ≡ true → list_all p (xs ++ ys) ≡ true
list_all_two p xs ys a b = rw (list_all-append p xs ys, a, b) refl

pub widen : (p q : ℕ → Bool) → ((c : ℕ) → p c ≡ true → q c ≡ true) → (xs : List ℕ) → list_all p xs ≡ true → list_all q xs ≡ true
widen p q wider [] all = refl
widen p q wider (x ∷ xs) all = let h = both (p x) (list_all p xs) all in rw (wider x h.0, widen p q wider xs h.1) refl

or_left : (a b c : Bool) → a ≡ true → (a || b || c) ≡ true
or_left a b c h = rw h refl

pub name_is_field : (xs : List ℕ) → list_all name_byte xs ≡ true → list_all field_byte xs ≡ true
name_is_field xs = widen name_byte field_byte (λ c h. or_left _ _ _ h) xs

pub field_is_word : (xs : List ℕ) → list_all field_byte xs ≡ true → list_all word_byte xs ≡ true
field_is_word xs = widen field_byte word_byte (λ c h. or_left _ _ _ h) xs

pub word_is_line : (xs : List ℕ) → list_all word_byte xs ≡ true → list_all line_byte xs ≡ true
word_is_line xs = widen word_byte line_byte (λ c h. rw h refl) xs

pub preceded_all : (p : ℕ → Bool) (c : ℕ) (ps : List (List ℕ)) → p c ≡ true → list_all (list_all p) ps ≡ true → list_all p (preceded c ps) ≡ true
unfolding preceded
preceded_all p c [] at all = refl
preceded_all p c (x ∷ xs) at all =
    let h = both (list_all p x) (list_all (list_all p) xs) all in
    rw at (list_all_two p x (preceded c xs) h.0 (preceded_all p c xs at h.1))

pub joined_all : (p : ℕ → Bool) (c : ℕ) (ps : List (List ℕ)) → p c ≡ true → list_all (list_all p) ps ≡ true → list_all p (joined c ps) ≡ true
unfolding joined
joined_all p c [] at all = refl
joined_all p c (x ∷ xs) at all = let h = both (list_all p x) (list_all (list_all p) xs) all in list_all_two p x (preceded c xs) h.0 (preceded_all p c xs at h.1)

differs : (p : ℕ → Bool) (c x : ℕ) → p c ≡ false → p x ≡ true → nat_eq x c ≡ false
differs p c x outside inside = let h : x ≡ c → ⊥ = λ e. (let k : p c ≡ true = rw (← e) inside in cc) in grind (arith, nat_tests)

-- a text of such bytes lacks a byte that isn't one
pub free_by : (p : ℕ → Bool) (c : ℕ) (xs : List ℕ) → p c ≡ false → list_all p xs ≡ true → free c xs ≡ true
free_by p c [] outside all = refl
free_by p c (x ∷ xs) outside all = let h = both (p x) (list_all p xs) all in rw (differs p c x outside h.0, free_by p c xs outside h.1) refl

pub all_free : (p : ℕ → Bool) (c : ℕ) (ps : List (List ℕ)) → p c ≡ false → list_all (list_all p) ps ≡ true → list_all (free c) ps ≡ true
all_free p c [] outside all = refl
all_free p c (x ∷ xs) outside all =
    let h = both (list_all p x) (list_all (list_all p) xs) all in
    rw (free_by p c x outside h.0, all_free p c xs outside h.1) refl

not_true : (b : Bool) → not b ≡ true → b ≡ false
not_true true h = cc
not_true false h = refl

pub none_of_free : (c : ℕ) (xs : List ℕ) → free c xs ≡ true → All (λ b. nat_eq b c ≡ false) xs
none_of_free c [] h = λ k d below. absurd (omega arith)
none_of_free c (x ∷ xs) h =
    let k = both (not (nat_eq x c)) (free c xs) h in
    All-cons (λ b. nat_eq b c ≡ false) x xs (not_true (nat_eq x c) k.0) (none_of_free c xs k.1)

-- numbers
model : IsNumeralModel (λ ds. all_ascii_digits ds ≡ true) (digits_value 10)
model = numerals_by_value (λ ds. all_ascii_digits ds ≡ true) tells_all_ascii_digits

pub decimal_digits : (n : ℕ) → n < 2 ^ 64 → all_ascii_digits (decimal n) ≡ true
decimal_digits n fits = digits_decimal model n fits

pub decimal_value : (n : ℕ) → n < 2 ^ 64 → digits_value 10 (decimal n) ≡ n
decimal_value n fits = digits_value-decimal model n fits

digit_is_name : (c : ℕ) → is_ascii_digit c ≡ true → name_byte c ≡ true
digit_is_name c h = grind (arith, nat_tests)

digits_are_name : (xs : List ℕ) → all_ascii_digits xs ≡ true → list_all name_byte xs ≡ true
digits_are_name [] h = refl
digits_are_name (x ∷ xs) h = let k = both (is_ascii_digit x) (all_ascii_digits xs) h in rw (digit_is_name x k.0, digits_are_name xs k.1) refl

pub decimal_name : (n : ℕ) → n < 2 ^ 64 → list_all name_byte (decimal n) ≡ true
decimal_name n fits = digits_are_name (decimal n) (decimal_digits n fits)

pub signed_name : (z : ℤ) → mag z < 2 ^ 63 → list_all name_byte (signed_decimal z) ≡ true
signed_name (pos n) fits = decimal_name n (omega arith)
signed_name (negsuc n) fits = decimal_name (suc n) (omega arith)
