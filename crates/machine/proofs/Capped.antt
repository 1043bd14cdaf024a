-- A count that stops at a number tells whether it is 0 or 1.
use Rattle.std.proofs.Common.{◌≡◌, ℕ, ◌-◌, ◌^◌, min, arith}
use Rattle.std.specs.Prelude.{◌==◌, nat_lt}

pub capped_is_one : (n : ℕ) → (min n (2 ^ 32 - 1) == 1) ≡ (n == 1)
capped_is_one n = grind arith

pub two_is_one : (n : ℕ) → (min n 2 == 1) ≡ (n == 1)
two_is_one n = grind arith

pub one_above_none : (n : ℕ) → (min n 1 == 1) ≡ nat_lt 0 n
one_above_none n = grind arith
