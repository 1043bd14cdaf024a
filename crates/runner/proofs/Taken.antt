-- Bytes that were taken from a source.
use Rattle.std.proofs.Common.{ℕ, ◌≡◌, ◌+◌, ◌≤◌, List, ◌++◌, length, take, arith}
use Rattle.std.proofs.lemmas.List.{length-append, length-take}

-- at most n of some bytes behind others
pub more_few : (limit : ℕ) (xs : List ℕ) (n : ℕ) (ys : List ℕ) → length xs + n ≤ limit → length (xs ++ take n ys) ≤ limit
more_few limit xs n ys h = simp (length-append, length-take) (omega arith)

-- so many of some bytes behind others
pub more_many : (limit : ℕ) (xs : List ℕ) (n : ℕ) (ys : List ℕ) → n ≤ length ys → length xs + n ≡ limit + 1 → length (xs ++ take n ys) ≡ limit + 1
more_many limit xs n ys few h = simp (length-append, length-take) (omega arith)
