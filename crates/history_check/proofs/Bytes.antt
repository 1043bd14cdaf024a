-- Which bytes stand in which texts.
use Rattle.entry_log.specs.Joined.{joined, preceded}
use Rattle.script_types.specs.SourceText.{split}
use Rattle.script_words.proofs.Splits.{split_before, split_clear}
use Rattle.script_words.proofs.Steps.{both}
use Rattle.std.proofs.Common.{◌≡◌, ℕ, zero, suc, ◌/◌, ◌%◌, ◌<◌, Bool, true, false, cond, not, ◌&&◌, List, [], ◌∷◌, ◌++◌, length, append-nil, refl, arith, nat_eq, eq-eqb, ℤ, pos, negsuc}
use Rattle.std.proofs.lemmas.Bool.Decides.{nat_tests}
use Rattle.std.proofs.lemmas.List.Folds.{list_all-append}
use Rattle.std.specs.Char.{is_ascii_digit}
use Rattle.std.specs.Fmt.{decimal, digits, digits_onto, digit_glyph, signed_decimal}
use Rattle.std.specs.List.{list_all}
use Rattle.std.specs.Prelude.{nat_lt}
use Rattle.sym_base.specs.NameText.{name_byte}

-- the bytes of a field of an effect, and of a step: no space, no line feed, no colon
abbrev pub field_byte : ℕ → Bool
field_byte c = nat_lt 32 c && not (nat_eq c 58)

-- the bytes of a word
abbrev pub word_byte : ℕ → Bool
word_byte c = nat_lt 32 c

-- the bytes of a line before its line feed
abbrev pub line_byte : ℕ → Bool
line_byte c = nat_lt 31 c

-- a text without this byte
abbrev pub free : ℕ → List ℕ → Bool
free c text = list_all (λ b. not (nat_eq b c)) text

pub all_two : (p : ℕ → Bool) (xs ys : List ℕ) → list_all p xs ≡ true → list_all p ys ≡ true → list_all p (xs ++ ys) ≡ true
all_two p xs ys a b = rw (list_all-append p xs ys, a, b) refl

widen : (p q : ℕ → Bool) → ((c : ℕ) → p c ≡ true → q c ≡ true) → (xs : List ℕ) → list_all p xs ≡ true → list_all q xs ≡ true
widen p q wider [] all = refl
widen p q wider (x ∷ xs) all = let h = both (p x) (list_all p xs) all in rw (wider x h.0, widen p q wider xs h.1) refl

shown_is_printed : (c : ℕ) → nat_lt 32 c ≡ true → nat_lt 31 c ≡ true
shown_is_printed c h = grind (arith, nat_tests)

name_is_shown : (c : ℕ) → name_byte c ≡ true → field_byte c ≡ true
name_is_shown c h = grind (arith, nat_tests)

digit_is_shown : (c : ℕ) → is_ascii_digit c ≡ true → field_byte c ≡ true
digit_is_shown c h = grind (arith, nat_tests)

pub name_is_field : (xs : List ℕ) → list_all name_byte xs ≡ true → list_all field_byte xs ≡ true
name_is_field xs = widen name_byte field_byte name_is_shown xs

pub field_is_word : (xs : List ℕ) → list_all field_byte xs ≡ true → list_all word_byte xs ≡ true
field_is_word xs = widen field_byte word_byte (λ c h. (both (nat_lt 32 c) (not (nat_eq c 58)) h).0) xs

pub word_is_line : (xs : List ℕ) → list_all word_byte xs ≡ true → list_all line_byte xs ≡ true
word_is_line xs = widen word_byte line_byte shown_is_printed xs

pub fields_are_words : (words : List (List ℕ)) → list_all (list_all field_byte) words ≡ true → list_all (list_all word_byte) words ≡ true
fields_are_words [] all = refl
fields_are_words (word ∷ words) all =
    let h = both (list_all field_byte word) (list_all (list_all field_byte) words) all in
    rw (field_is_word word h.0, fields_are_words words h.1) refl

pub words_are_lines : (words : List (List ℕ)) → list_all (list_all word_byte) words ≡ true → list_all (list_all line_byte) words ≡ true
words_are_lines [] all = refl
words_are_lines (word ∷ words) all =
    let h = both (list_all word_byte word) (list_all (list_all word_byte) words) all in
    rw (word_is_line word h.0, words_are_lines words h.1) refl

-- a text of such bytes lacks a byte that isn't one
differs : (p : ℕ → Bool) (c x : ℕ) → p c ≡ false → p x ≡ true → nat_eq x c ≡ false
differs p c x outside inside = let h : x ≡ c → ⊥ = λ e. (let k : p c ≡ true = rw (← e) inside in cc) in grind (arith, nat_tests)

pub free_by : (p : ℕ → Bool) (c : ℕ) (xs : List ℕ) → p c ≡ false → list_all p xs ≡ true → free c xs ≡ true
free_by p c [] outside all = refl
free_by p c (x ∷ xs) outside all = let h = both (p x) (list_all p xs) all in rw (differs p c x outside h.0, free_by p c xs outside h.1) refl

pub all_free : (p : ℕ → Bool) (c : ℕ) (ps : List (List ℕ)) → p c ≡ false → list_all (list_all p) ps ≡ true → list_all (free c) ps ≡ true
all_free p c [] outside all = refl
all_free p c (x ∷ xs) outside all =
    let h = both (list_all p x) (list_all (list_all p) xs) all in
    rw (free_by p c x outside h.0, all_free p c xs outside h.1) refl

-- joined pieces
preceded_all : (p : ℕ → Bool) (c : ℕ) (ps : List (List ℕ)) → p c ≡ true → list_all (list_all p) ps ≡ true → list_all p (preceded c ps) ≡ true
unfolding preceded
preceded_all p c [] at all = refl
preceded_all p c (x ∷ xs) at all =
    let h = both (list_all p x) (list_all (list_all p) xs) all in
    rw at (all_two p x (preceded c xs) h.0 (preceded_all p c xs at h.1))

pub joined_all : (p : ℕ → Bool) (c : ℕ) (ps : List (List ℕ)) → p c ≡ true → list_all (list_all p) ps ≡ true → list_all p (joined c ps) ≡ true
unfolding joined
joined_all p c [] at all = refl
joined_all p c (x ∷ xs) at all = let h = both (list_all p x) (list_all (list_all p) xs) all in all_two p x (preceded c xs) h.0 (preceded_all p c xs at h.1)

-- are split again where they were joined
split_more : (c : ℕ) (x : List ℕ) (xs : List (List ℕ)) → free c x ≡ true → list_all (free c) xs ≡ true → split (λ b. nat_eq b c) (x ++ preceded c xs) ≡ x ∷ xs
unfolding preceded
split_more c x [] h all = rw append-nil (split_clear (λ b. nat_eq b c) x h)
split_more c x (y ∷ ys) h all =
    let k = both (free c y) (list_all (free c) ys) all in
    rw (split_before (λ b. nat_eq b c) x c (y ++ preceded c ys) h (eq-eqb c c refl), split_more c y ys k.0 k.1) refl

pub split_joined : (c : ℕ) (xs : List (List ℕ)) → 0 < length xs → list_all (free c) xs ≡ true → split (λ b. nat_eq b c) (joined c xs) ≡ xs
unfolding joined
split_joined c [] some all = absurd (omega arith)
split_joined c (x ∷ xs) some all = let k = both (free c x) (list_all (free c) xs) all in split_more c x xs k.0 k.1

-- Every number is written in digits.
either : (p : ℕ → Bool) (b : Bool) (xs ys : List ℕ) → list_all p xs ≡ true → list_all p ys ≡ true → list_all p (cond b xs ys) ≡ true
either p true xs ys one other = one
either p false xs ys one other = other

glyph_is_digit : (d : ℕ) → d < 10 → is_ascii_digit (digit_glyph false d) ≡ true
glyph_is_digit d small = grind (arith, nat_tests)

onto_digits : (k n : ℕ) (behind : List ℕ) → list_all is_ascii_digit behind ≡ true → list_all is_ascii_digit (digits_onto k 10 false n behind) ≡ true
onto_digits zero n behind all = all
onto_digits (suc k) n behind all =
    let small : n % 10 < 10 = omega arith in
    let more : list_all is_ascii_digit (digit_glyph false (n % 10) ∷ behind) ≡ true = rw (glyph_is_digit (n % 10) small, all) refl in
    either is_ascii_digit (nat_eq (n / 10) 0) _ _ more (onto_digits k (n / 10) (digit_glyph false (n % 10) ∷ behind) more)

pub decimal_digits : (n : ℕ) → list_all is_ascii_digit (decimal n) ≡ true
unfolding digits
decimal_digits n = onto_digits 64 n [] refl

pub decimal_field : (n : ℕ) → list_all field_byte (decimal n) ≡ true
decimal_field n = widen is_ascii_digit field_byte digit_is_shown (decimal n) (decimal_digits n)

pub signed_field : (z : ℤ) → list_all field_byte (signed_decimal z) ≡ true
signed_field (pos n) = decimal_field n
signed_field (negsuc n) = decimal_field (suc n)

-- no digit begins such a text
pub digits_begin : (ds t u : List ℕ) (b c : ℕ) → is_ascii_digit b ≡ false → nat_eq c b ≡ false → list_all is_ascii_digit ds ≡ true → ds ++ c ∷ t ≡ b ∷ u → ⊥
digits_begin [] t u b c other apart all same = let e : c ≡ b = cc in let k : nat_eq c b ≡ true = eq-eqb c b e in absurd (cc)
digits_begin (d ∷ ds) t u b c other apart all same =
    let e : d ≡ b = cc in
    let k : is_ascii_digit b ≡ true = rw (← e) (both (is_ascii_digit d) (list_all is_ascii_digit ds) all).0 in absurd (cc)
