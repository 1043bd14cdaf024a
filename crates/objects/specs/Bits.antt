-- A bit for each number, in words of 64.
use Rattle.std.specs.Prelude.{ℕ, ◌/◌, ◌%◌, List, slice_index}
use Rattle.std.specs.Int.{bit_at}

-- the bit of a number
abbrev pub bit_of : List ℕ → ℕ → ℕ
bit_of words number = bit_at (slice_index words (number / 64)) (number % 64)
