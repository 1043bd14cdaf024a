-- The digits of numbers, two at a time.
use Rattle.entry_log.specs.Pair.{pair_text}
use Rattle.entry_log.specs.declared.text.numbers.TheConstants.{PAIRS}
use Rattle.std.proofs.Common.{◌≡◌, ℕ, zero, suc, ◌+◌, ◌-◌, ◌*◌, ◌/◌, ◌%◌, ◌^◌, ◌<◌, ◌≤◌, Bool, true, ◌&&◌, T, eqb, ◌++◌, length, length-append, get_or, ◌∙◌, ap, arith, inl, inr, eq-zero-or-pos, eqb→eq, refl, append_assoc}
use Rattle.std.proofs.lemmas.Fmt.{decimal_digit, decimal_step}
use Rattle.std.specs.Fmt.{decimal}
use lib.Ieee.Fits.{and_l, and_r}

abbrev are_pairs : ℕ → Bool
are_pairs zero = true
are_pairs (suc n) = (eqb (get_or PAIRS (2 * n) 0) (48 + n / 10) && eqb (get_or PAIRS (2 * n + 1) 0) (48 + n % 10)) && are_pairs n

pairs_below : (m n : ℕ) → T (are_pairs m) → n < m → (get_or PAIRS (2 * n) 0 ≡ 48 + n / 10) × (get_or PAIRS (2 * n + 1) 0 ≡ 48 + n % 10)
pairs_below zero n t h = absurd (omega arith)
pairs_below (suc m) n t h =
    elim (eq-zero-or-pos (m - n)) [
      | inl z ↦ let e : n ≡ m = omega arith in let a = and_l _ (are_pairs m) t in rw e (eqb→eq _ _ (and_l _ _ a), eqb→eq _ _ (and_r _ _ a))
      | inr more ↦ pairs_below m n (and_r _ (are_pairs m) t) (omega arith)
    ]

-- the table holds the digits of each number below 100
pub pair_at : (n : ℕ) → n < 100 → (get_or PAIRS (2 * n) 0 ≡ 48 + n / 10) × (get_or PAIRS (2 * n + 1) 0 ≡ 48 + n % 10)
pair_at n h = pairs_below 100 n tt h

pub two_digits : (n : ℕ) → 10 ≤ n → n < 100 → decimal n ≡ pair_text n
unfolding pair_text
two_digits n some few = rw (decimal_step n some (omega arith), decimal_digit (n / 10) (omega arith)) refl

pub digits_and_pair : (n : ℕ) → 100 ≤ n → n < 2 ^ 64 → decimal n ≡ decimal (n / 100) ++ pair_text (n % 100)
unfolding pair_text
digits_and_pair n some small =
    let front : n / 10 / 10 ≡ n / 100 = omega arith in
    let tens : n / 10 % 10 ≡ n % 100 / 10 = omega arith in
    let ones : n % 10 ≡ n % 100 % 10 = omega arith in
    rw (decimal_step n (omega arith) small, decimal_step (n / 10) (omega arith) (omega arith), append_assoc, front, tens, ones) refl

pub length_digits_and_pair : (n : ℕ) → 100 ≤ n → n < 2 ^ 64 → length (decimal n) ≡ length (decimal (n / 100)) + 2
unfolding pair_text
length_digits_and_pair n some small = ap length (digits_and_pair n some small) ∙ length-append (decimal (n / 100)) (pair_text (n % 100))

pub length_two_digits : (n : ℕ) → 10 ≤ n → n < 100 → length (decimal n) ≡ 2
unfolding pair_text
length_two_digits n some few = ap length (two_digits n some few)
