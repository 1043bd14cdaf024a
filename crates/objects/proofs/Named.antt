-- How many rows have names, and how many have after a change.
use Rattle.std.proofs.Common.{◌≡◌, ℕ, ◌+◌, ◌<◌, ◌≤◌, zero, suc, Bool, true, false, List, [], ◌∷◌, ◌++◌, length, set, arith, inl, inr}
use Rattle.std.specs.Prelude.{Option, Some, None, if◌then◌else◌}
use Rattle.std.proofs.lemmas.Bool.{cases_lt}
use Rattle.state_rows.specs.declared.object.ObjectRow.{ObjectRow}
use Rattle.state_rows.specs.ObjectRows.{with_object}
use Rattle.objects.specs.Rows.{row_at}
use Rattle.objects.specs.Names.{is_named, named_bit, names_in}
use Rattle.objects.proofs.Numbers.{Rows, placed_inside, placed_next}

swapped : (a b c : ℕ) → (a + b) + c ≡ (c + b) + a
swapped a b c = omega arith

under : (a b c d e : ℕ) → b + c ≡ d + e → (a + b) + c ≡ (a + d) + e
under a b c d e is = omega arith

-- a row that is written anew counts in the other's place
pub names_set : (rows : Rows) (n : ℕ) (row : Option ObjectRow) → n < length rows
    → names_in (set rows n row) + named_bit (row_at rows n) ≡ names_in rows + named_bit row
names_set [] n row inside = absurd (omega arith)
names_set (x ∷ xs) zero row inside = swapped (named_bit row) (names_in xs) (named_bit x)
names_set (x ∷ xs) (suc n) row inside =
    under (named_bit x) (names_in (set xs n row)) (named_bit (row_at xs n)) (names_in xs) (named_bit row) (names_set xs n row (omega arith))

-- a row behind the others counts too
last : (a b c d : ℕ) → b ≡ c + d → a + b ≡ (a + c) + d
last a b c d is = omega arith

names_push : (rows : Rows) (row : Option ObjectRow) → names_in (rows ++ row ∷ []) ≡ names_in rows + named_bit row
names_push [] row = let zero_right : named_bit row + 0 ≡ 0 + named_bit row = omega arith in zero_right
names_push (x ∷ xs) row = last (named_bit x) (names_in (xs ++ row ∷ [])) (names_in xs) (named_bit row) (names_push xs row)

-- there are no more names than rows
one_or_none : (named : Bool) → (if named then 1 else 0) ≤ 1
one_or_none true = omega arith
one_or_none false = omega arith

bit_small : (row : Option ObjectRow) → named_bit row ≤ 1
bit_small row = one_or_none (is_named row)

more : (a b c : ℕ) → a ≤ 1 → b ≤ c → a + b ≤ suc c
more a b c small few = omega arith

names_few : (rows : Rows) → names_in rows ≤ length rows
names_few [] = omega arith
names_few (row ∷ rest) = more (named_bit row) (names_in rest) (length rest) (bit_small row) (names_few rest)

-- and fewer where a number has none
less : (a b c : ℕ) → a ≤ 1 → b < c → a + b < suc c
less a b c small few = omega arith

names_free : (rows : Rows) (n : ℕ) → n < length rows → row_at rows n ≡ None → names_in rows < length rows
names_free [] n inside none = absurd (omega arith)
names_free (None ∷ xs) zero inside none = let few = names_few xs in omega arith
names_free (Some row ∷ xs) zero inside none = absurd (cc)
names_free (x ∷ xs) (suc n) inside none =
    less (named_bit x) (names_in xs) (length xs) (bit_small x) (names_free xs n (omega arith) none)

-- so there is room for one more at a number that is free
pub names_room : (rows : Rows) (n : ℕ) → n ≤ length rows → row_at rows n ≡ None → n < 4096 → length rows ≤ 4096 → names_in rows < 4096
names_room rows n within free room few = elim (cases_lt n (length rows)) [
  | inl inside ↦ let some = names_free rows n inside free in omega arith
  | inr past ↦ let all = names_few rows in omega arith
]

-- a new row counts where it has a name
pub names_made : (rows : Rows) (n : ℕ) (row : ObjectRow) → n ≤ length rows → row_at rows n ≡ None
    → names_in (with_object rows n row) ≡ names_in rows + named_bit (Some row)
names_made rows n row within free = elim (cases_lt n (length rows)) [
  | inl inside ↦
      let written : names_in (set rows n (Some row)) + 0 ≡ names_in rows + named_bit (Some row) = rw free at (names_set rows n (Some row) inside) in
      rw (placed_inside rows n row inside) (omega arith)
  | inr past ↦ rw (placed_next rows n row past) (names_push rows (Some row))
]
