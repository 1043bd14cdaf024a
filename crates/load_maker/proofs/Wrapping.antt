-- A draw, made in two steps that each wrap.
use Rattle.std.proofs.Common.{◌≡◌, ℕ, ◌+◌, ◌*◌, ◌%◌, ◌^◌}
use Rattle.std.proofs.Math.Nat.{mod-add-mod}
use Rattle.load_maker.specs.Draws.{next}

pub next_wraps : (x : ℕ) → (x * 6364136223846793005 % 2 ^ 64 + 1442695040888963407) % 2 ^ 64 ≡ next x
unfolding next
next_wraps x = mod-add-mod (x * 6364136223846793005) (2 ^ 64) 1442695040888963407
