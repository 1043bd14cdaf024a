-- The highest bit that is set.
use Rattle.std.proofs.Common.{w64, ◌≡◌, ℕ, suc, ◌+◌, ◌-◌, ◌*◌, ◌^◌, ◌<◌, ◌≤◌, ap, ◌∙◌, arith}
use Rattle.std.specs.Int.{bit_at, leading_zeros}
use Rattle.std.proofs.Math.Nat.{pow-suc}
use Rattle.std.proofs.lemmas.Nat.{leading_top}
use Rattle.std.proofs.lemmas.Nat.Bits.{bit_at_cat_high, bit_at_above}

-- a number below the next power has the bit
top_set : (m j : ℕ) → 2 ^ j ≤ m → m < 2 ^ suc j → bit_at m j ≡ 1
top_set m j low high =
    let double : 2 ^ suc j ≡ 2 ^ j * 2 = pow-suc 2 j in
    let split : 1 * 2 ^ j + (m - 2 ^ j) ≡ m = omega arith in
    let zero_on : j - j ≡ 0 = omega arith in
    rw (← split) (bit_at_cat_high 1 j (m - 2 ^ j) j (omega arith) (omega arith) ∙ ap (λ k. bit_at 1 k) zero_on)

pub highest_set : (m : ℕ) → 0 < m → m < 2 ^ 64 → bit_at m (63 - leading_zeros w64 m) ≡ 1
highest_set m some small =
    let top = leading_top 64 m some small in
    let is : 63 - leading_zeros w64 m ≡ top.0 = omega (arith, top.1) in
    rw is (top_set m top.0 top.2 top.3)

pub none_above : (m p : ℕ) → 0 < m → m < 2 ^ 64 → 63 - leading_zeros w64 m < p → bit_at m p ≡ 0
none_above m p some small above =
    let top = leading_top 64 m some small in
    let is : 63 - leading_zeros w64 m ≡ top.0 = omega (arith, top.1) in
    bit_at_above m (suc top.0) p top.3 (omega arith)
