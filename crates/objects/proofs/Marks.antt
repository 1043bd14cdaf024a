-- Bits of numbers, in words of 64.
use Rattle.std.proofs.Common.{◌≡◌, ◌≢◌, ℕ, ◌+◌, ◌*◌, ◌/◌, ◌%◌, ◌^◌, ◌<◌, List, length, set, get_or, refl, ap, ◌∙◌, sym, arith, inl, inr, replicate}
use Rattle.std.proofs.Common.{get_or-set_same, get_or-set_other, bit_and, bit_or, w64}
use Rattle.std.proofs.lemmas.Bool.{cases_eq}
use Rattle.std.proofs.lemmas.List.{get_or-replicate}
use Rattle.std.proofs.lemmas.Nat.Bits.{bit_at_ones, bit_at-zero, bit_at_set_same, bit_at_set_other, bit_at_clear_same, bit_at_clear_other, bit_at-trailing_zeros}
use Rattle.std.specs.Int.{bit_at, bit_not, trailing_zeros}
use Rattle.objects.specs.Bits.{bit_of}

-- one word is written: the bits of the numbers of the other words stay
written_other : (words : List ℕ) (word place i : ℕ) → i / 64 ≢ place / 64 → bit_of (set words (place / 64) word) i ≡ bit_of words i
written_other words word place i apart = rw (get_or-set_other words (place / 64) (i / 64) word 0 apart) refl

-- and those of its own numbers are the bits of the written word
written_here : (words : List ℕ) (word place i : ℕ) → place / 64 < length words → i / 64 ≡ place / 64
    → bit_of (set words (place / 64) word) i ≡ bit_at word (i % 64)
written_here words word place i inside here = ap (λ w. bit_at w (i % 64)) (rw here (get_or-set_same words (place / 64) word 0 inside))

-- the bit of a number is set
pub given_same : (words : List ℕ) (place : ℕ) → place / 64 < length words
    → bit_of (set words (place / 64) (bit_or (get_or words (place / 64) 0) (1 * 2 ^ (place % 64) % 2 ^ 64))) place ≡ 1
given_same words place inside = written_here words _ place place inside refl ∙ bit_at_set_same w64 (get_or words (place / 64) 0) (place % 64) (omega arith)

pub given_other : (words : List ℕ) (place i : ℕ) → place / 64 < length words → i ≢ place
    → bit_of (set words (place / 64) (bit_or (get_or words (place / 64) 0) (1 * 2 ^ (place % 64) % 2 ^ 64))) i
    ≡ bit_of words i
given_other words place i inside apart =
    elim (cases_eq (i / 64) (place / 64)) [
      | inl here ↦
          let off : i % 64 ≢ place % 64 = omega arith in
          written_here words _ place i inside here
          ∙ bit_at_set_other w64 (get_or words (place / 64) 0) (place % 64) (omega arith) (i % 64) off
          ∙ ap (λ k. bit_at (get_or words k 0) (i % 64)) (sym here)
      | inr there ↦ written_other words _ place i there
    ]

-- the bit of a number is cleared
pub taken_same : (words : List ℕ) (place : ℕ) → place / 64 < length words
    → bit_of (set words (place / 64) (bit_and (get_or words (place / 64) 0)
    (bit_not w64 (1 * 2 ^ (place % 64) % 2 ^ 64)))) place ≡ 0
taken_same words place inside = written_here words _ place place inside refl ∙ bit_at_clear_same w64 (get_or words (place / 64) 0) (place % 64) (omega arith)

pub taken_other : (words : List ℕ) (place i : ℕ) → place / 64 < length words → i ≢ place
    → bit_of (set words (place / 64) (bit_and (get_or words (place / 64) 0)
    (bit_not w64 (1 * 2 ^ (place % 64) % 2 ^ 64)))) i ≡ bit_of words i
taken_other words place i inside apart =
    elim (cases_eq (i / 64) (place / 64)) [
      | inl here ↦
          let off : i % 64 ≢ place % 64 = omega arith in
          written_here words _ place i inside here
          ∙ bit_at_clear_other w64 (get_or words (place / 64) 0) (place % 64) (omega arith) (i % 64) (omega arith) off
          ∙ ap (λ k. bit_at (get_or words k 0) (i % 64)) (sym here)
      | inr there ↦ written_other words _ place i there
    ]

-- no bit of the words below one is set
abbrev pub IsClearBelow : List ℕ → ℕ → Type 0
IsClearBelow words word = (k : ℕ) → k < word → get_or words k 0 ≡ 0

pub clear_below : (words : List ℕ) (word i : ℕ) → IsClearBelow words word → i < 64 * word → bit_of words i ≡ 0
clear_below words word i clear low = rw (clear (i / 64) (omega arith)) (bit_at-zero (i % 64))

-- the first set bit of the first word that isn't 0
pub first_set : (words : List ℕ) (word : ℕ) → get_or words word 0 ≢ 0 → get_or words word 0 < 2 ^ 64
    → (trailing_zeros w64 (get_or words word 0) < 64)
    × (bit_of words (64 * word + trailing_zeros w64 (get_or words word 0)) ≡ 1)
first_set words word some fits =
    let n = get_or words word 0 in
    let z = trailing_zeros w64 n in
    let found = bit_at-trailing_zeros w64 n (omega arith) fits in
    let low : z < 64 = found.0 in
    let at : (64 * word + z) / 64 ≡ word = omega arith in
    let off : (64 * word + z) % 64 ≡ z = omega arith in
    (low, rw (at, off) found.1)

pub clear_before : (words : List ℕ) (word : ℕ) → get_or words word 0 ≢ 0 → get_or words word 0 < 2 ^ 64
    → IsClearBelow words word → (i : ℕ) → i < 64 * word + trailing_zeros w64 (get_or words word 0) → bit_of words i ≡ 0
clear_before words word some fits clear i low =
    let n = get_or words word 0 in
    let found = bit_at-trailing_zeros w64 n (omega arith) fits in
    elim (cases_eq (i / 64) word) [
      | inl here ↦ rw here (found.2 (i % 64) (omega arith))
      | inr there ↦ clear_below words word i clear (omega (arith, found.0))
    ]

-- each bit of words of ones is set
pub all_set : (i : ℕ) → i < 4096 → bit_of (replicate 64 18446744073709551615) i ≡ 1
all_set i low =
    let inside : i / 64 < 64 = omega arith in
    rw (get_or-replicate {A = ℕ} 64 (i / 64) 18446744073709551615 0 inside) (bit_at_ones 64 (i % 64) (omega arith))
