-- The number of the next object, and the rows with its row.
use Rattle.std.proofs.Common.{◌≡◌, ◌≢◌, ℕ, ◌+◌, ◌<◌, ◌≤◌, zero, suc, Bool, true, false, List, [], ◌∷◌, ◌++◌, length, set, refl, ap, sym, subst, ◌∙◌, arith, inl, inr, ◌⊎◌, length-set, get_or-set_same, get_or-set_other}
use Rattle.std.specs.Prelude.{Option, Some, None, is_none, if◌then◌else◌}
use Rattle.std.proofs.lemmas.Bool.{cases_eq, cases_lt, cases_order, lt-ltb, le-ltb}
use Rattle.std.proofs.lemmas.List.{get_or_append_left, get_or_past, get_or_push, length_push}
use Rattle.sym_base.specs.declared.limits.TheConstants.Limits.{OBJECTS}
use Rattle.state_rows.specs.declared.object.ObjectRow.{ObjectRow}
use Rattle.state_rows.specs.ObjectRows.{first_free, next_number, with_object}
use Rattle.objects.specs.Bits.{bit_of}
use Rattle.objects.specs.Rows.{row_at}

abbrev pub Rows : Type 0
Rows = List (Option ObjectRow)

-- the least number without an object is one of the rows', or comes next
first_free_is : (rows : Rows) → (first_free rows ≤ length rows) × (row_at rows (first_free rows) ≡ None)
first_free_is [] = (omega arith, refl)
first_free_is (None ∷ rest) = (omega arith, refl)
first_free_is (Some row ∷ rest) =
    let r = first_free_is rest in
    let le = r.0 in
    let next : suc (first_free rest) ≡ 1 + first_free rest = omega arith in
    (omega arith, subst (λ (n : ℕ). row_at (Some row ∷ rest) n ≡ None) next r.1)

-- and each number below it has an object
taken_below : (rows : Rows) (k : ℕ) → k < first_free rows → (row : ObjectRow) × (row_at rows k ≡ Some row)
taken_below [] k low = absurd (omega arith)
taken_below (None ∷ rest) k low = absurd (omega arith)
taken_below (Some row ∷ rest) zero low = (row, refl)
taken_below (Some row ∷ rest) (suc k) low = taken_below rest k (omega arith)

-- the bits tell which numbers are free
abbrev pub AreMarked : Rows → List ℕ → Type 0
AreMarked rows free = (k : ℕ) → k < OBJECTS → bit_of free k ≡ (if is_none (row_at rows k) then 1 else 0)

-- so the first set bit is that of the least number without an object
pub least_is : (rows : Rows) (free : List ℕ) (n : ℕ) → length rows ≤ OBJECTS → AreMarked rows free → n ≤ 4096
    → (n < 4096 → bit_of free n ≡ 1) → ((i : ℕ) → i < n → bit_of free i ≡ 0) → n ≡ first_free rows
least_is rows free n few marked within free_here clear =
    let least = first_free_is rows in
    elim (cases_order n (first_free rows)) [
      | inl is ↦ is
      | inr (inl low) ↦
          let inside : n < 4096 = omega (arith, least.0) in
          let row = taken_below rows n low in
          let taken : bit_of free n ≡ 0 = rw row.1 at (marked n inside) in
          let no : ◌≡◌ {A = ℕ} 1 0 = sym (free_here inside) ∙ taken in
          absurd (omega arith)
      | inr (inr high) ↦
          let inside : first_free rows < 4096 = omega arith in
          let none : bit_of free (first_free rows) ≡ 1 = rw least.1 at (marked (first_free rows) inside) in
          let no : ◌≡◌ {A = ℕ} 1 0 = sym none ∙ clear (first_free rows) high in
          absurd (omega arith)
    ]

-- the next number is one of the rows', or comes next, and has no row
pub next_is : (reuse : Bool) (rows : Rows) → (next_number reuse rows ≤ length rows) × (row_at rows (next_number reuse rows) ≡ None)
next_is true rows = first_free_is rows
next_is false rows = (omega arith, get_or_past rows (length rows) None (omega arith))

-- the rows with a new one, at a number that has none, or that comes next
pub placed_inside : (rows : Rows) (n : ℕ) (row : ObjectRow) → n < length rows → with_object rows n row ≡ set rows n (Some row)
placed_inside rows n row inside = rw (lt-ltb n (length rows) inside) refl

pub placed_next : (rows : Rows) (n : ℕ) (row : ObjectRow) → length rows ≤ n → with_object rows n row ≡ rows ++ Some row ∷ []
placed_next rows n row past = rw (le-ltb n (length rows) past) refl

-- the new row stands at its number
pub row_new : (rows : Rows) (n : ℕ) (row : ObjectRow) → n ≤ length rows → row_at (with_object rows n row) n ≡ Some row
row_new rows n row within = elim (cases_lt n (length rows)) [
  | inl inside ↦ rw (placed_inside rows n row inside) (get_or-set_same rows n (Some row) None inside)
  | inr past ↦ rw (placed_next rows n row past) (get_or_push rows (Some row) None n (omega arith))
]

-- and the others where they stood
pub row_other : (rows : Rows) (n : ℕ) (row : ObjectRow) (k : ℕ) → n ≤ length rows → k ≢ n → row_at (with_object rows n row) k ≡ row_at rows k
row_other rows n row k within other = elim (cases_lt n (length rows)) [
  | inl inside ↦ rw (placed_inside rows n row inside) (get_or-set_other rows n k (Some row) None other)
  | inr past ↦ rw (placed_next rows n row past) (elim (cases_lt k (length rows)) [
    | inl old ↦ get_or_append_left rows (Some row ∷ []) None k old
    | inr beyond ↦
        let long = length_push rows (Some row) in
        let more : length (rows ++ Some row ∷ []) ≤ k = omega (arith, long) in
        get_or_past (rows ++ Some row ∷ []) k None more ∙ sym (get_or_past rows k None beyond)
  ])
]

-- which rows there are then
pub row_cases : (rows : Rows) (n : ℕ) (row : ObjectRow) (k : ℕ) (other : ObjectRow) → n ≤ length rows
    → row_at (with_object rows n row) k ≡ Some other → ((k ≡ n) × (other ≡ row)) ⊎ ((k ≢ n) × (row_at rows k ≡ Some other))
row_cases rows n row k other within is = elim (cases_eq k n) [
  | inl here ↦
      let same : Some row ≡ Some other = sym (row_new rows n row within) ∙ ap (row_at (with_object rows n row)) (sym here) ∙ is in
      inl (here, cc)
  | inr apart ↦ inr (apart, sym (row_other rows n row k within apart) ∙ is)
]

-- they are as many, or one more
pub rows_long : (rows : Rows) (n : ℕ) (row : ObjectRow)
    → (length rows ≤ length (with_object rows n row)) × (length (with_object rows n row) ≤ length rows + 1)
rows_long rows n row = elim (cases_lt n (length rows)) [
  | inl inside ↦
      let long = length-set rows n (Some row) in
      rw (placed_inside rows n row inside) (omega (arith, long), omega (arith, long))
  | inr past ↦
      let long = length_push rows (Some row) in
      rw (placed_next rows n row past) (omega (arith, long), omega (arith, long))
]

pub rows_few : (rows : Rows) (n : ℕ) (row : ObjectRow) → n ≤ length rows → n < OBJECTS → length rows ≤ OBJECTS
    → length (with_object rows n row) ≤ OBJECTS
rows_few rows n row within room few = elim (cases_lt n (length rows)) [
  | inl inside ↦ let long = length-set rows n (Some row) in rw (placed_inside rows n row inside) (omega (arith, long))
  | inr past ↦ let long = length_push rows (Some row) in rw (placed_next rows n row past) (omega (arith, long))
]
