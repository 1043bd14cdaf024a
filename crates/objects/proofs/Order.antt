-- The order of keys, and the list of names in that order.
use Rattle.std.proofs.Common.{◌≡◌, ℕ, ◌<◌, ◌≤◌, ◌+◌, List, length, get_or, sym, ap, ◌∙◌, arith, inl, inr}
use Rattle.std.specs.Prelude.{Option, Some, None, IsTrue, slice_index, ◌==◌}
use Rattle.std.specs.Str.{bytes_eq}
use Rattle.std.specs.declared.cmp.Ordering.TheVariants.{Less, Greater}
use Rattle.std.specs.Ordering.{nat_cmp, is_eq, ordering_reverse}
use Rattle.std.specs.Cmp.{IsTotalOrder, both_tied, unsigned_ties}
use Rattle.std.specs.Cmp.Lexicographic.{slice_cmp}
use Rattle.std.proofs.lemmas.Bool.{cases_eq, cases_lt}
use Rattle.std.proofs.lemmas.Cmp.{nat_cmp_total, nat_list_cmp_total, on_total, then_total, tied_itself}
use Rattle.std.proofs.lemmas.List.{get_or_past, get_or_read}
use Rattle.std.proofs.lemmas.Map.Text.{is_eq-slice_cmp}
use Rattle.sym_base.specs.KindNumber.{kind_number}
use Rattle.sym_base.specs.declared.kind.Kind.{Kind}
use Rattle.state_rows.specs.declared.object.ObjectRow.{ObjectRow}
use Rattle.state_rows.specs.ObjectRows.{has_name}
use Rattle.objects.specs.Rows.{row_at}
use Rattle.objects.specs.Names.{Key, key_order, key_of, key_at, is_named, names_in, AreListed}

abbrev pub Rows : Type 0
Rows = List (Option ObjectRow)

-- keys are in a total order
pub key_order_total : IsTotalOrder key_order
key_order_total = then_total (on_total (λ (k : Key). kind_number k.kind) nat_cmp_total) (on_total (λ (k : Key). k.name) nat_list_cmp_total)

-- what is less one way round is greater the other
turned : (one other : Key) → key_order one other ≡ Less → key_order other one ≡ Greater
turned one other less = key_order_total.antisymm other one ∙ ap ordering_reverse less

pub back : (one other : Key) → key_order one other ≡ Greater → key_order other one ≡ Less
back one other greater = key_order_total.antisymm other one ∙ ap ordering_reverse greater

-- no key is less than itself
pub irreflexive : (key : Key) → key_order key key ≡ Less → ⊥
irreflexive key less = let same = tied_itself key_order_total key in absurd (cc)

-- an object has a name exactly where their keys are equal
pub has_name-order : (kind : Kind) (name : List ℕ) (row : ObjectRow)
    → has_name kind name (Some row) ≡ is_eq (key_order (key_of (Some row)) (record { kind = kind; name = name }))
has_name-order kind name row =
    both_tied (kind_number row.kind == kind_number kind) (bytes_eq row.name name)
    (nat_cmp (kind_number row.kind) (kind_number kind)) (slice_cmp nat_cmp row.name name)
    (unsigned_ties (kind_number row.kind) (kind_number kind)) (sym (is_eq-slice_cmp row.name name))

-- an object with a name was made
pub is_named-made : (rows : Rows) (o : ℕ) → IsTrue (is_named (row_at rows o)) → o < length rows
is_named-made rows o named = elim (cases_lt o (length rows)) [
  | inl inside ↦ inside
  | inr past ↦ let none = get_or_past rows o None past in absurd (cc (rw none at named))
]

-- the number that stands at a place was made
pub listed_made : (rows : Rows) (numbers : List ℕ) (i : ℕ) → AreListed rows numbers → i < length numbers → slice_index numbers i < length rows
listed_made rows numbers i listed inside = is_named-made rows (slice_index numbers i) (listed.named i inside)

-- a step of the search: what stands before a lesser key is less, too
pub less_before : (rows : Rows) (numbers : List ℕ) (key : Key) (middle : ℕ) → AreListed rows numbers
    → middle < length numbers → key_order (key_at rows numbers middle) key ≡ Less → (i : ℕ) → i < middle + 1
    → key_order (key_at rows numbers i) key ≡ Less
less_before rows numbers key middle listed inside less i below = elim (cases_eq i middle) [
  | inl here ↦ rw here less
  | inr other ↦ key_order_total.trans (key_at rows numbers i) (key_at rows numbers middle) key (listed.rising i middle (omega arith) inside) less
]

-- and what stands behind a greater one is greater, too
pub greater_behind : (rows : Rows) (numbers : List ℕ) (key : Key) (middle : ℕ) → AreListed rows numbers
    → key_order (key_at rows numbers middle) key ≡ Greater → (i : ℕ) → middle ≤ i → i < length numbers
    → key_order (key_at rows numbers i) key ≡ Greater
greater_behind rows numbers key middle listed greater i above inside = elim (cases_eq i middle) [
  | inl here ↦ rw here greater
  | inr other ↦
      let less = back (key_at rows numbers middle) key greater in
      turned key (key_at rows numbers i) (key_order_total.trans key (key_at rows numbers middle)
      (key_at rows numbers i) less (listed.rising middle i (omega arith) inside))
]

-- where two tables have the same keys at the same numbers, they list the same
pub listed_alike : (rows others : Rows) (numbers : List ℕ) → AreListed rows numbers → names_in rows ≤ names_in others
    → ((o : ℕ) → is_named (row_at others o) ≡ is_named (row_at rows o))
    → ((o : ℕ) → key_of (row_at others o) ≡ key_of (row_at rows o)) → AreListed others numbers
listed_alike rows others numbers listed long named key = record {
  few = omega (arith, listed.few);
  named = λ i inside. rw named (listed.named i inside);
  rising = λ i j less inside. rw (key, key) (listed.rising i j less inside);
  complete = λ o is. listed.complete o (rw named at is);
}

-- the row that is read by the number at a place
pub row_read : (rows : Rows) (numbers : List ℕ) (place n : ℕ) (row : Option ObjectRow) → AreListed rows numbers
    → place < length numbers → n ≡ get_or numbers place n → row ≡ get_or rows n row
    → row ≡ row_at rows (slice_index numbers place)
row_read rows numbers place n row listed inside number read =
    let is : n ≡ slice_index numbers place = get_or_read numbers place n inside number 0 in
    let made : n < length rows = rw is (listed_made rows numbers place listed inside) in
    get_or_read rows n row made read None ∙ ap (row_at rows) is
