-- A bit for each place, in words of 64.
use Rattle.std.specs.Prelude.{ℕ, ◌/◌, ◌%◌, List, slice_index}
use Rattle.std.specs.Int.{bit_at}

-- the bit of a place
abbrev pub bit_of : List ℕ → ℕ → ℕ
bit_of words place = bit_at (slice_index words (place / 64)) (place % 64)
