-- What the list of names is after an object is made, and after one is swept.
use Rattle.std.proofs.Common.{◌≡◌, ◌≢◌, ℕ, ◌<◌, ◌≤◌, ◌+◌, ◌-◌, true, false, List, [], ◌∷◌, ◌++◌, length, refl, sym, ap, ◌∙◌, arith, inl, inr, ◌⊎◌, get_or-set_same, get_or-set_other}
use Rattle.std.specs.Prelude.{Option, Some, None, IsTrue, slice_index, not}
use Rattle.std.specs.List.{insert, remove}
use Rattle.std.specs.declared.cmp.Ordering.TheVariants.{Equal}
use Rattle.std.proofs.lemmas.Bool.{cases_eq, cases_lt}
use Rattle.std.proofs.lemmas.List.Edits.{length-insert, get_or-insert_below, get_or-insert_at, get_or-insert_above, length-remove, get_or-remove_below, get_or-remove_above}
use Rattle.sym_base.specs.declared.kind.Kind.{Kind}
use Rattle.state_rows.specs.declared.object.ObjectRow.{ObjectRow}
use Rattle.state_rows.specs.ObjectRows.{is_session, dead_row, with_object}
use Rattle.objects.specs.Rows.{row_at}
use Rattle.objects.specs.Calls.{new_row, rows_closed, rows_swept}
use Rattle.objects.specs.Names.{key_order, key_of, key_at, is_named, named_bit, names_in, AreListed, IsGap}
use Rattle.objects.proofs.Named.{names_made, names_set}
use Rattle.objects.proofs.Numbers.{row_new, row_other}
use Rattle.objects.proofs.Finding.{place_is, other_number}
use Rattle.ref_words.specs.declared.answer.Closed.TheVariants.{Last}
use Rattle.objects.proofs.Order.{listed_alike, Rows, back, is_named-made}

-- in a list with one more at a place, each place has what stood there, the new one, or what stood before it
insert_cases : (xs : List ℕ) (place y k : ℕ) → place ≤ length xs → k < length (insert xs place y)
    → ((k < place) × (slice_index (insert xs place y) k ≡ slice_index xs k))
    ⊎ (((k ≡ place) × (slice_index (insert xs place y) k ≡ y))
    ⊎ ((place < k) × (k - 1 < length xs) × (slice_index (insert xs place y) k ≡ slice_index xs (k - 1))))
insert_cases xs place y k within inside = elim (cases_lt k place) [
  | inl below ↦ inl (below, get_or-insert_below xs place y 0 k below within)
  | inr above ↦ elim (cases_eq k place) [
    | inl here ↦ inr (inl (here, rw here (get_or-insert_at xs place y 0 within)))
    | inr other ↦
        let again : k ≡ (k - 1) + 1 = omega arith in
        let moved : slice_index (insert xs place y) ((k - 1) + 1) ≡ slice_index xs (k - 1) = get_or-insert_above xs place y 0 (k - 1) (omega arith) within in
        inr (inr (omega arith, omega (arith, length-insert xs place y within), ap (slice_index (insert xs place y)) again ∙ moved))
  ]
]

-- no listed number is free
listed_other : (rows : Rows) (numbers : List ℕ) (n i : ℕ) → AreListed rows numbers → row_at rows n ≡ None → i < length numbers
    → slice_index numbers i ≢ n
listed_other rows numbers n i listed free inside = λ same. absurd (cc (rw (same, free) at (listed.named i inside)))

-- the key at a place stays while a row is added at a free number
key_kept : (rows : Rows) (numbers : List ℕ) (n : ℕ) (row : ObjectRow) (i : ℕ) → AreListed rows numbers → n ≤ length rows
    → row_at rows n ≡ None → i < length numbers → key_of (row_at (with_object rows n row) (slice_index numbers i)) ≡ key_at rows numbers i
key_kept rows numbers n row i listed within free inside =
    ap key_of (row_other rows n row (slice_index numbers i) within (listed_other rows numbers n i listed free inside))

named_kept : (rows : Rows) (numbers : List ℕ) (n : ℕ) (row : ObjectRow) (i : ℕ) → AreListed rows numbers → n ≤ length rows
    → row_at rows n ≡ None → i < length numbers → IsTrue (is_named (row_at (with_object rows n row) (slice_index numbers i)))
named_kept rows numbers n row i listed within free inside =
    rw (row_other rows n row (slice_index numbers i) within (listed_other rows numbers n i listed free inside)) (listed.named i inside)

-- an object without a name is made
listed_session : (rows : Rows) (numbers : List ℕ) (n : ℕ) (row : ObjectRow) → AreListed rows numbers → n ≤ length rows
    → row_at rows n ≡ None → is_named (Some row) ≡ false → AreListed (with_object rows n row) numbers
listed_session rows numbers n row listed within free unnamed =
    let count : names_in (with_object rows n row) ≡ names_in rows + 0 = rw unnamed at (names_made rows n row within free) in
    record {
      few = omega (arith, listed.few, count);
      named = λ i inside. named_kept rows numbers n row i listed within free inside;
      rising =
          λ i j less inside. rw (
            key_kept rows numbers n row i listed within free (omega arith),
            key_kept rows numbers n row j listed within free inside,
          ) (listed.rising i j less inside);
      complete = λ o is. elim (cases_eq o n) [
        | inl here ↦ absurd (cc (rw (here, row_new rows n row within, unnamed) at is))
        | inr other ↦ listed.complete o (rw (row_other rows n row o within other) at is)
      ];
    }

-- an object with a name is made
listed_new : (rows : Rows) (numbers : List ℕ) (n : ℕ) (row : ObjectRow) (place : ℕ) → AreListed rows numbers → n ≤ length rows
    → row_at rows n ≡ None → IsTrue (is_named (Some row)) → IsGap rows numbers (key_of (Some row)) place
    → AreListed (with_object rows n row) (insert numbers place n)
listed_new rows numbers n row place listed within free is_new gap =
    let count : names_in (with_object rows n row) ≡ names_in rows + 1 = rw is_new at (names_made rows n row within free) in
    let longer = length-insert numbers place n gap.within in
    let new : row_at (with_object rows n row) n ≡ Some row = row_new rows n row within in
    let cases = insert_cases numbers place n in
    let kept : (i : ℕ) → i < length numbers → key_of (row_at (with_object rows n row) (slice_index numbers i)) ≡ key_at rows numbers i =
    λ i inside. key_kept rows numbers n row i listed within free inside in
    record {
      few = omega (arith, listed.few, count, longer);
      named = λ i inside. elim (cases i gap.within inside) [
        | inl (below, same) ↦ rw same (named_kept rows numbers n row i listed within free (omega (arith, gap.within)))
        | inr (inl (here, is)) ↦ rw (is, new) is_new
        | inr (inr (above, old, same)) ↦ rw same (named_kept rows numbers n row (i - 1) listed within free old)
      ];
      rising = λ i j less inside. elim (cases i gap.within (omega arith)) [
        | inl (below, same) ↦
            let first = kept i (omega (arith, gap.within)) in
            elim (cases j gap.within inside) [
              | inl (below_j, same_j) ↦ rw (same, same_j, first, kept j (omega (arith, gap.within))) (listed.rising i j less (omega (arith, gap.within)))
              | inr (inl (here, is)) ↦ rw (same, is, first, new) (gap.before i below)
              | inr (inr (above, old, same_j)) ↦ rw (same, same_j, first, kept (j - 1) old) (listed.rising i (j - 1) (omega arith) old)
            ]
        | inr (inl (here, is)) ↦
            elim (cases j gap.within inside) [
              | inl (below_j, same_j) ↦ absurd (omega arith)
              | inr (inl (here_j, is_j)) ↦ absurd (omega arith)
              | inr (inr (above, old, same_j)) ↦
                  rw (is, same_j, new, kept (j - 1) old)
                  (back (key_at rows numbers (j - 1)) (key_of (Some row)) (gap.behind (j - 1) (omega arith) old))
            ]
        | inr (inr (above, old, same)) ↦
            elim (cases j gap.within inside) [
              | inl (below_j, same_j) ↦ absurd (omega arith)
              | inr (inl (here_j, is_j)) ↦ absurd (omega arith)
              | inr (inr (above_j, old_j, same_j)) ↦
                  rw (same, same_j, kept (i - 1) old, kept (j - 1) old_j) (listed.rising (i - 1) (j - 1) (omega arith) old_j)
            ]
      ];
      complete = λ o is. elim (cases_eq o n) [
        | inl here ↦ (place, omega (arith, gap.within, longer), get_or-insert_at numbers place n 0 gap.within ∙ sym here)
        | inr other ↦
            let was = listed.complete o (rw (row_other rows n row o within other) at is) in
            elim (cases_lt was.0 place) [
              | inl below ↦ (was.0, omega (arith, was.1, longer), get_or-insert_below numbers place n 0 was.0 below gap.within ∙ was.2)
              | inr above ↦ (was.0 + 1, omega (arith, was.1, longer), get_or-insert_above numbers place n 0 was.0 above gap.within ∙ was.2)
            ]
      ];
    }

-- an object is made, and listed unless it is a session
pub listed_made_new : (rows : Rows) (numbers : List ℕ) (kind : Kind) (name : List ℕ) (place n made : ℕ) → AreListed rows numbers
    → n ≤ length rows → row_at rows n ≡ None → is_session kind ≡ false
    → IsGap rows numbers (record { kind = kind; name = name }) place
    → AreListed (with_object rows n (new_row kind name made)) (insert numbers place n)
listed_made_new rows numbers kind name place n made listed within free named gap =
    let row : ObjectRow = record { kind = kind; name = name; dead = false; place = made } in
    let same : new_row kind name made ≡ row = rw named refl in
    rw same (listed_new rows numbers n row place listed within free (ap not named) gap)

pub listed_made_session : (rows : Rows) (numbers : List ℕ) (kind : Kind) (name : List ℕ) (n made : ℕ) → AreListed rows numbers
    → n ≤ length rows → row_at rows n ≡ None → is_session kind ≡ true → AreListed (with_object rows n (new_row kind name made)) numbers
listed_made_session rows numbers kind name n made listed within free session =
    listed_session rows numbers n (new_row kind name made) listed within free (ap not session)

-- in a list without one of its places, each place has what stood there or behind it
remove_cases : (xs : List ℕ) (place k : ℕ) → place < length xs → k < length (remove xs place)
    → ((k < place) × (slice_index (remove xs place) k ≡ slice_index xs k))
    ⊎ ((place ≤ k) × (k + 1 < length xs) × (slice_index (remove xs place) k ≡ slice_index xs (k + 1)))
remove_cases xs place k within inside = elim (cases_lt k place) [
  | inl below ↦ inl (below, get_or-remove_below xs place 0 k below within)
  | inr above ↦ inr (above, omega (arith, length-remove xs place within), get_or-remove_above xs place 0 k above within)
]

-- the other rows as one goes
row_left : (rows : Rows) (o p : ℕ) → p ≢ o → row_at (rows_swept rows o) p ≡ row_at rows p
row_left rows o p other = get_or-set_other rows o p None None other

-- an object that is named after another's sweep was named, and is another
swept_named : (rows : Rows) (o p : ℕ) → o < length rows → IsTrue (is_named (row_at (rows_swept rows o) p)) → (p ≢ o) × IsTrue (is_named (row_at rows p))
swept_named rows o p inside named = elim (cases_eq p o) [
  | inl here ↦ let none = get_or-set_same rows o None None inside in absurd (cc (rw (here, none) at named))
  | inr other ↦ (other, rw (row_left rows o p other) at named)
]

-- an object without a name is swept
pub listed_swept_session : (rows : Rows) (numbers : List ℕ) (o : ℕ) → AreListed rows numbers → o < length rows
    → is_named (row_at rows o) ≡ false → AreListed (rows_swept rows o) numbers
listed_swept_session rows numbers o listed made unnamed =
    let count : names_in (rows_swept rows o) + 0 ≡ names_in rows + 0 = rw unnamed at (names_set rows o None made) in
    let other : (i : ℕ) → i < length numbers → slice_index numbers i ≢ o = λ i inside is. absurd (cc (rw (is, unnamed) at (listed.named i inside))) in
    let row : (i : ℕ) → i < length numbers → row_at (rows_swept rows o) (slice_index numbers i)
    ≡ row_at rows (slice_index numbers i) =
    λ i inside. row_left rows o (slice_index numbers i) (other i inside) in
    record {
      few = omega (arith, listed.few, count);
      named = λ i inside. rw (row i inside) (listed.named i inside);
      rising = λ i j less inside. rw (row i (omega arith), row j inside) (listed.rising i j less inside);
      complete = λ p is. listed.complete p (swept_named rows o p made is).1;
    }

-- an object with a name is swept
listed_swept_named : (rows : Rows) (numbers : List ℕ) (o place : ℕ) → AreListed rows numbers → o < length rows
    → IsTrue (is_named (row_at rows o)) → place < length numbers → slice_index numbers place ≡ o
    → AreListed (rows_swept rows o) (remove numbers place)
listed_swept_named rows numbers o place listed made named within is =
    let count : names_in (rows_swept rows o) + 1 ≡ names_in rows + 0 = rw named at (names_set rows o None made) in
    let shorter = length-remove numbers place within in
    let row : (i : ℕ) → i < length numbers → i ≢ place → row_at (rows_swept rows o) (slice_index numbers i)
    ≡ row_at rows (slice_index numbers i) =
    λ i inside other. row_left rows o (slice_index numbers i)
    (other_number rows numbers o place i listed within is inside other) in
    let cases = remove_cases numbers place in
    record {
      few = omega (arith, listed.few, count, shorter);
      named = λ i inside. elim (cases i within inside) [
        | inl (below, same) ↦ rw (same, row i (omega arith) (omega arith)) (listed.named i (omega arith))
        | inr (above, old, same) ↦ rw (same, row (i + 1) old (omega arith)) (listed.named (i + 1) old)
      ];
      rising = λ i j less inside. elim (cases i within (omega arith)) [
        | inl (below, same) ↦ elim (cases j within inside) [
          | inl (below_j, same_j) ↦
              rw (same, same_j, row i (omega arith) (omega arith), row j (omega arith) (omega arith))
              (listed.rising i j less (omega arith))
          | inr (above_j, old_j, same_j) ↦
              rw (same, same_j, row i (omega arith) (omega arith), row (j + 1) old_j (omega arith))
              (listed.rising i (j + 1) (omega arith) old_j)
        ]
        | inr (above, old, same) ↦ elim (cases j within inside) [
          | inl (below_j, same_j) ↦ absurd (omega arith)
          | inr (above_j, old_j, same_j) ↦
              rw (same, same_j, row (i + 1) old (omega arith), row (j + 1) old_j (omega arith))
              (listed.rising (i + 1) (j + 1) (omega arith) old_j)
        ]
      ];
      complete = λ p named.
          let swept = swept_named rows o p made named in
          let was = listed.complete p swept.1 in
          elim (cases_eq was.0 place) [
            | inl here ↦ absurd (swept.0 (sym was.2 ∙ ap (slice_index numbers) here ∙ is))
            | inr other ↦ elim (cases_lt was.0 place) [
              | inl below ↦ (was.0, omega (arith, was.1, shorter), get_or-remove_below numbers place 0 was.0 below within ∙ was.2)
              | inr above ↦
                  let again : (was.0 - 1) + 1 ≡ was.0 = omega arith in (
                    was.0 - 1,
                    omega (arith, was.1, shorter),
                    get_or-remove_above numbers place 0 (was.0 - 1) (omega arith) within ∙ ap (slice_index numbers) again
                        ∙ was.2,
                  )
            ]
          ];
    }

-- the object at the place of the key of its row is swept
pub listed_swept : (rows : Rows) (numbers : List ℕ) (o place : ℕ) → AreListed rows numbers
    → IsTrue (is_named (row_at rows o)) → place < length numbers
    → key_order (key_at rows numbers place) (key_of (row_at rows o)) ≡ Equal
    → AreListed (rows_swept rows o) (remove numbers place)
listed_swept rows numbers o place listed named within same =
    listed_swept_named rows numbers o place listed (is_named-made rows o named) named within (place_is rows numbers o place listed named within same)

-- a row keeps its key as the last reference goes
dead_is_named : (row : Option ObjectRow) → is_named (dead_row row) ≡ is_named row
dead_is_named None = refl
dead_is_named (Some row) = refl

dead_key : (row : Option ObjectRow) → key_of (dead_row row) ≡ key_of row
dead_key None = refl
dead_key (Some row) = refl

-- the last reference of an object goes
pub listed_closed : (rows : Rows) (numbers : List ℕ) (o : ℕ) → AreListed rows numbers → o < length rows → AreListed (rows_closed Last rows o) numbers
listed_closed rows numbers o listed made =
    let at : row_at (rows_closed Last rows o) o ≡ dead_row (row_at rows o) = get_or-set_same rows o (dead_row (row_at rows o)) None made in
    let other : (p : ℕ) → p ≢ o → row_at (rows_closed Last rows o) p ≡ row_at rows p =
    λ p different. get_or-set_other rows o p (dead_row (row_at rows o)) None different in
    let same : named_bit (dead_row (row_at rows o)) ≡ named_bit (row_at rows o) = rw (dead_is_named (row_at rows o)) refl in
    let set_one = names_set rows o (dead_row (row_at rows o)) made in
    listed_alike rows (rows_closed Last rows o) numbers listed (omega (arith, set_one, same)) (λ p. elim (cases_eq p o) [
      | inl here ↦ rw (here, at) (dead_is_named (row_at rows o))
      | inr different ↦ ap is_named (other p different)
    ]) (λ p. elim (cases_eq p o) [
      | inl here ↦ rw (here, at) (dead_key (row_at rows o))
      | inr different ↦ ap key_of (other p different)
    ])

-- no object is made yet
pub listed_none : AreListed [] []
listed_none = record {
  few = omega arith;
  named = λ i inside. absurd (omega arith);
  rising = λ i j less inside. absurd (omega arith);
  complete = λ o is. absurd (cc);
}
