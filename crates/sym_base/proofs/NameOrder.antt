-- Names stand in the order of the numbers of 128 bits that their bytes and the zeros behind them write.
use Rattle.std.proofs.Common.{◌≡◌, ◌∙◌, ℕ, zero, suc, ◌+◌, ◌-◌, ◌*◌, ◌^◌, ◌<◌, ◌≤◌, true, List, [], ◌∷◌, ◌++◌, length, replicate, take, refl, sym, ap, arith, mul-le-mul_right, add-mul, one-mul, pow-suc, inl, inr}
use Rattle.std.specs.Prelude.{slice_index}
use Rattle.std.specs.List.{list_all}
use Rattle.std.specs.declared.cmp.Ordering.TheVariants.{Less, Equal, Greater}
use Rattle.std.specs.Ordering.{nat_cmp, ordering_then}
use Rattle.std.specs.Cmp.{nat_cmp_is}
use Rattle.std.specs.Cmp.Lexicographic.{slice_cmp}
use Rattle.std.specs.Int.{w128, byte_worth, sum_through, from_be_bytes}
use Rattle.std.proofs.lemmas.Bool.{cases_order, and_parts}
use Rattle.std.proofs.lemmas.Bool.Decides.{nat_tests}
use Rattle.std.proofs.lemmas.List.{length-append, length-replicate}
use Rattle.sym_base.specs.NameText.{name_byte}
use Rattle.sym_base.specs.Padded.{IsPadded}

-- a byte of a name has 8 bits, and isn't zero
byte_of : (c : ℕ) → name_byte c ≡ true → (0 < c) × (c < 256)
byte_of c is = (grind (arith, nat_tests), grind (arith, nat_tests))

-- the number that so many bytes write, the first the highest, where zeros stand behind those of the list
abbrev worth : ℕ → List ℕ → ℕ
worth zero xs = 0
worth (suc k) [] = 0
worth (suc k) (x ∷ xs) = x * 256 ^ k + worth k xs

-- a higher byte outweighs those behind it
outweighs : (x y p r s : ℕ) → x < y → r < p → x * p + r < y * p + s
outweighs x y p r s less small =
    let more : (x + 1) * p ≤ y * p = mul-le-mul_right p (omega arith) in
    let one : (x + 1) * p ≡ x * p + p = add-mul x 1 p ∙ ap (λ n. x * p + n) (one-mul p) in
    omega (arith, more, one)

power : (k : ℕ) → 0 < 256 ^ k
power zero = omega arith
power (suc k) = omega (arith, power k, pow-suc 256 k)

some_weight : (y p s : ℕ) → 0 < y → 0 < p → 0 < y * p + s
some_weight y p s some more = omega (arith, outweighs 0 y p 0 s some more)

worth_small : (k : ℕ) (xs : List ℕ) → list_all name_byte xs ≡ true → worth k xs < 256 ^ k
worth_small zero xs text = omega arith
worth_small (suc k) [] text = omega (arith, power (suc k))
worth_small (suc k) (x ∷ xs) text =
    let parts = and_parts (name_byte x) (list_all name_byte xs) text in
    let byte = byte_of x parts.0 in
    omega (arith, outweighs x 256 (256 ^ k) (worth k xs) 0 byte.1 (worth_small k xs parts.1), pow-suc 256 k)

-- as much more on both sides doesn't change the order
shifted : (n a b : ℕ) → nat_cmp a b ≡ nat_cmp (n + a) (n + b)
shifted n a b = elim (cases_order a b) [
  | inl same ↦ rw same (sym (nat_cmp_is b b Equal refl) ∙ nat_cmp_is (n + b) (n + b) Equal refl)
  | inr (inl less) ↦ sym (nat_cmp_is a b Less less) ∙ nat_cmp_is (n + a) (n + b) Less (omega arith)
  | inr (inr more) ↦ sym (nat_cmp_is a b Greater more) ∙ nat_cmp_is (n + a) (n + b) Greater (omega arith)
]

-- so names are in the order of these numbers
worth_order : (k : ℕ) (xs ys : List ℕ) → list_all name_byte xs ≡ true → list_all name_byte ys ≡ true → length xs ≤ k → length ys ≤ k
    → slice_cmp nat_cmp xs ys ≡ nat_cmp (worth k xs) (worth k ys)
worth_order zero [] [] text other short few = refl
worth_order zero [] (y ∷ ys) text other short few = absurd (omega arith)
worth_order zero (x ∷ xs) ys text other short few = absurd (omega arith)
worth_order (suc k) [] [] text other short few = refl
worth_order (suc k) [] (y ∷ ys) text other short few =
    let byte = byte_of y (and_parts (name_byte y) (list_all name_byte ys) other).0 in
    nat_cmp_is 0 (worth (suc k) (y ∷ ys)) Less (some_weight y (256 ^ k) (worth k ys) byte.0 (power k))
worth_order (suc k) (x ∷ xs) [] text other short few =
    let byte = byte_of x (and_parts (name_byte x) (list_all name_byte xs) text).0 in
    nat_cmp_is (worth (suc k) (x ∷ xs)) 0 Greater (some_weight x (256 ^ k) (worth k xs) byte.0 (power k))
worth_order (suc k) (x ∷ xs) (y ∷ ys) text other short few =
    let one = and_parts (name_byte x) (list_all name_byte xs) text in
    let two = and_parts (name_byte y) (list_all name_byte ys) other in
    let small = worth_small k xs one.1 in
    let least = worth_small k ys two.1 in
    let rest = worth_order k xs ys one.1 two.1 (omega arith) (omega arith) in
    elim (cases_order x y) [
      | inl same ↦
          rw same (
          ap (λ o. ordering_then o (slice_cmp nat_cmp xs ys)) (sym (nat_cmp_is y y Equal refl))
          ∙ rest ∙ shifted (y * 256 ^ k) (worth k xs) (worth k ys)
          )
      | inr (inl less) ↦
          ap (λ o. ordering_then o (slice_cmp nat_cmp xs ys)) (sym (nat_cmp_is x y Less less))
          ∙ nat_cmp_is (worth (suc k) (x ∷ xs)) (worth (suc k) (y ∷ ys)) Less (outweighs x y (256 ^ k) (worth k xs) (worth k ys) less small)
      | inr (inr more) ↦
          ap (λ o. ordering_then o (slice_cmp nat_cmp xs ys)) (sym (nat_cmp_is x y Greater more))
          ∙ nat_cmp_is (worth (suc k) (x ∷ xs)) (worth (suc k) (y ∷ ys)) Greater (outweighs y x (256 ^ k) (worth k ys) (worth k xs) more least)
    ]

-- zeros behind a list weigh nothing
worth_zeros : (k n : ℕ) → worth k (replicate n 0) ≡ 0
worth_zeros zero n = refl
worth_zeros (suc k) zero = refl
worth_zeros (suc k) (suc n) = omega (arith, worth_zeros k n)

worth_padded : (k n : ℕ) (xs : List ℕ) → worth k (xs ++ replicate n 0) ≡ worth k xs
worth_padded zero n xs = refl
worth_padded (suc k) n [] = worth_zeros (suc k) n
worth_padded (suc k) n (x ∷ xs) = ap (λ r. x * 256 ^ k + r) (worth_padded k n xs)

-- the first of a sum taken apart
first_apart : (f : ℕ → ℕ) (k : ℕ) → sum_through f (suc k) ≡ f 0 + sum_through (λ i. f (suc i)) k
first_apart f zero = refl
first_apart f (suc k) = omega (arith, first_apart f k)

-- the number of bytes, the last of which is worth least
number_of : (k : ℕ) (bytes : List ℕ) → length bytes ≡ suc k → sum_through (λ i. byte_worth (k - i) (slice_index bytes i)) k ≡ worth (suc k) bytes
number_of k [] long = absurd (omega arith)
number_of zero (x ∷ bytes) long = omega arith
number_of (suc k) (x ∷ bytes) long =
    let front : suc k - 0 ≡ suc k = omega arith in
    let behind : (i : ℕ) → suc k - suc i ≡ k - i = λ i. omega arith in
    first_apart (λ i. byte_worth (suc k - i) (slice_index (x ∷ bytes) i)) k
    ∙ (λ j. byte_worth (front j) x + sum_through (λ i. byte_worth (behind i j) (slice_index bytes i)) k)
    ∙ ap (λ n. x * 256 ^ suc k + n) (number_of k bytes (omega arith))

name_number : (bytes : List ℕ) (len : ℕ) → IsPadded bytes len → from_be_bytes w128 bytes ≡ worth 16 (take len bytes)
name_number bytes len h =
    let long : length bytes ≡ 16 =
    ap (λ (l : List ℕ). length l) (sym h.zeros)
    ∙ omega (arith, length-append (take len bytes) (replicate (16 - len) 0), length-replicate {A = ℕ} (16 - len) 0, h.size, h.short) in
    number_of 15 bytes long ∙ ap (worth 16) (sym h.zeros) ∙ worth_padded 16 (16 - len) (take len bytes)

pub name_order : (one other : List ℕ) (len size : ℕ) → IsPadded one len → IsPadded other size
    → nat_cmp (from_be_bytes w128 one) (from_be_bytes w128 other) ≡ slice_cmp nat_cmp (take len one) (take size other)
name_order one other len size h k =
    rw (name_number one len h, name_number other size k)
    (sym (worth_order 16 (take len one) (take size other) h.text k.text (omega (arith, h.size, h.short)) (omega (arith, k.size, k.short))))
