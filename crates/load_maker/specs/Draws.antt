-- The numbers that a script is made from: a linear congruential generator.
use Rattle.std.specs.Prelude.{ℕ, suc, zero, ◌+◌, ◌*◌, ◌^◌, ◌/◌, ◌%◌}

-- the state behind a draw
unfoldable pub next : ℕ → ℕ
next x = (x * 6364136223846793005 + 1442695040888963407) % 2 ^ 64

-- the number that a draw gives whose state is this
unfoldable pub number_of : ℕ → ℕ
number_of x = x / 2 ^ 33

-- the state behind so many draws, from a state on
abbrev pub state_after : ℕ → ℕ → ℕ
state_after x zero = x
state_after x (suc n) = next (state_after x n)

-- the draw of this number, from 0, from a state on
abbrev pub draw : ℕ → ℕ → ℕ
draw x n = number_of (state_after x (suc n))
