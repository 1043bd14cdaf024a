-- What the search in the list of names tells of the rows.
use Rattle.std.proofs.Common.{◌≡◌, ◌≢◌, ℕ, ◌<◌, Bool, true, false, List, length, get_or, refl, sym, ap, ◌∙◌, arith, inl, inr}
use Rattle.std.specs.Prelude.{Option, Some, None, IsTrue, slice_index, position, not}
use Rattle.std.specs.List.{list_any}
use Rattle.std.specs.declared.cmp.Ordering.{Ordering}
use Rattle.std.specs.declared.cmp.Ordering.TheVariants.{Less, Equal, Greater}
use Rattle.std.specs.Ordering.{is_eq}
use Rattle.std.proofs.lemmas.Bool.{cases_lt, cases_order, false_from_ne_true, lt-ltb, le-ltb}
use Rattle.std.proofs.lemmas.Cmp.{tied_back, tied_itself}
use Rattle.std.proofs.lemmas.List.{get_or_read}
use Rattle.std.proofs.lemmas.List.Folds.{list_any_at, Any-from_list_any}
use Rattle.std.proofs.lemmas.List.Sums.{position_or_len_is}
use Rattle.sym_base.specs.declared.kind.Kind.{Kind}
use Rattle.state_rows.specs.declared.object.ObjectRow.{ObjectRow}
use Rattle.state_rows.specs.ObjectRows.{is_session, has_name, is_taken}
use Rattle.std.specs.Option.{is_some}
use Rattle.ref_words.specs.Words.{Words}
use Rattle.objects.specs.Kept.{AreKept}
use Rattle.objects.specs.Rows.{row_at}
use Rattle.objects.specs.Names.{key_order, key_of, key_at, is_named, AreListed, IsGap, IsNewPlace}
use Rattle.objects.proofs.Order.{Rows, key_order_total, irreflexive, has_name-order, listed_made}
use Rattle.objects.proofs.SameKind.{has_name-kind}

-- an answer that says equal is the equal one
equal_from : (o : Ordering) → is_eq o ≡ true → o ≡ Equal
equal_from Less is = absurd (cc)
equal_from Equal is = refl
equal_from Greater is = absurd (cc)

-- a row that has a name has an equal key
has_order : (kind : Kind) (name : List ℕ) (row : Option ObjectRow) → has_name kind name row ≡ true
    → key_order (key_of row) (record { kind = kind; name = name }) ≡ Equal
has_order kind name None has = absurd (cc)
has_order kind name (Some row) has = equal_from (key_order (key_of (Some row)) (record { kind = kind; name = name })) (sym (has_name-order kind name row) ∙ has)

has_named : (kind : Kind) (name : List ℕ) (row : Option ObjectRow) → is_session kind ≡ false → has_name kind name row ≡ true → IsTrue (is_named row)
has_named kind name None named has = absurd (cc)
has_named kind name (Some row) named has = rw (has_name-kind kind name row has, named) refl

-- and the other way round
order_has : (kind : Kind) (name : List ℕ) (row : Option ObjectRow) → IsTrue (is_named row)
    → key_order (key_of row) (record { kind = kind; name = name }) ≡ Equal → has_name kind name row ≡ true
order_has kind name None named same = absurd (cc)
order_has kind name (Some row) named same = has_name-order kind name row ∙ ap is_eq same

-- the object at the place of a name has it
pub found_has : (rows : Rows) (numbers : List ℕ) (kind : Kind) (name : List ℕ) (place : ℕ) → AreListed rows numbers
    → place < length numbers → key_order (key_at rows numbers place) (record { kind = kind; name = name }) ≡ Equal
    → has_name kind name (row_at rows (slice_index numbers place)) ≡ true
found_has rows numbers kind name place listed inside same = order_has kind name (row_at rows (slice_index numbers place)) (listed.named place inside) same

-- and where there is a gap, no object has the name
pub gap_unnamed : (rows : Rows) (numbers : List ℕ) (kind : Kind) (name : List ℕ) (place : ℕ) → AreListed rows numbers
    → is_session kind ≡ false → IsGap rows numbers (record { kind = kind; name = name }) place → (o : ℕ)
    → has_name kind name (row_at rows o) ≡ false
gap_unnamed rows numbers kind name place listed named gap o = false_from_ne_true (has_name kind name (row_at rows o)) (λ has.
    let was = listed.complete o (has_named kind name (row_at rows o) named has) in
    let same : key_order (key_at rows numbers was.0) (record { kind = kind; name = name }) ≡ Equal = rw was.2 (has_order kind name (row_at rows o) has) in
    elim (cases_lt was.0 place) [
      | inl below ↦ let less = gap.before was.0 below in absurd (cc)
      | inr above ↦ let greater = gap.behind was.0 above was.1 in absurd (cc)
    ])

-- so the name is taken, or free
pub found_taken : (rows : Rows) (numbers : List ℕ) (kind : Kind) (name : List ℕ) (place : ℕ) → AreListed rows numbers
    → is_session kind ≡ false → place < length numbers
    → key_order (key_at rows numbers place) (record { kind = kind; name = name }) ≡ Equal
    → is_taken kind name rows ≡ true
found_taken rows numbers kind name place listed named inside same =
    let has = found_has rows numbers kind name place listed inside same in
    let any = list_any_at (has_name kind name) rows (slice_index numbers place) None (listed_made rows numbers place listed inside) has in
    rw (named, any) refl

pub gap_free : (rows : Rows) (numbers : List ℕ) (kind : Kind) (name : List ℕ) (place : ℕ) → AreListed rows numbers
    → is_session kind ≡ false → IsGap rows numbers (record { kind = kind; name = name }) place
    → is_taken kind name rows ≡ false
gap_free rows numbers kind name place listed named gap =
    let none = false_from_ne_true (list_any (has_name kind name) rows) (λ any.
    let some = Any-from_list_any (has_name kind name) rows any in
    let row = get_or_read rows some.0 some.1 some.2 (sym some.3) None in
    let free = gap_unnamed rows numbers kind name place listed named gap some.0 in
    absurd (cc (rw (← row) at free, some.4))) in
    rw (named, none) refl

-- the only place that passes a test is the first
pub position_alone : {X : Type 0} (p : X → Bool) (xs : List X) (i : ℕ) (d : X) → i < length xs
    → p (get_or xs i d) ≡ true → ((k : ℕ) → p (get_or xs k d) ≡ true → k ≡ i) → Some i ≡ position p xs
position_alone p xs i d inside here alone =
    let first = position_or_len_is p xs i d (omega arith)
    (λ k below. false_from_ne_true (p (get_or xs k d)) (λ other. absurd (omega (arith, alone k other)))) (λ _. here) in
    rw (first, lt-ltb i (length xs) inside) refl

pub position_nowhere : {X : Type 0} (p : X → Bool) (xs : List X) (d : X) → ((k : ℕ) → p (get_or xs k d) ≡ false) → None ≡ position p xs
position_nowhere p xs d none =
    let first = position_or_len_is p xs (length xs) d (omega arith) (λ k below. none k) (λ inside. absurd (omega arith)) in
    rw (first, le-ltb (length xs) (length xs) (omega arith)) refl

-- a listed object stands at the place of its key
pub place_is : (rows : Rows) (numbers : List ℕ) (o place : ℕ) → AreListed rows numbers
    → IsTrue (is_named (row_at rows o)) → place < length numbers
    → key_order (key_at rows numbers place) (key_of (row_at rows o)) ≡ Equal → slice_index numbers place ≡ o
place_is rows numbers o place listed named inside same =
    let was = listed.complete o named in
    let here : key_at rows numbers was.0 ≡ key_of (row_at rows o) = rw was.2 refl in
    elim (cases_order was.0 place) [
      | inl is ↦ rw (← is) was.2
      | inr (inl below) ↦
          let less = rw here at (listed.rising was.0 place below inside) in
          let back = tied_back key_order_total (key_at rows numbers place) (key_of (row_at rows o)) same in
          absurd (cc)
      | inr (inr above) ↦
          let less = rw here at (listed.rising place was.0 above was.1) in
          absurd (cc)
    ]

-- where there is a gap for the key of a row, the row isn't listed
pub gap_absent : (rows : Rows) (numbers : List ℕ) (o place : ℕ) → AreListed rows numbers
    → IsTrue (is_named (row_at rows o)) → IsGap rows numbers (key_of (row_at rows o)) place → ⊥
gap_absent rows numbers o place listed named gap =
    let was = listed.complete o named in
    let here : key_at rows numbers was.0 ≡ key_of (row_at rows o) = rw was.2 refl in
    elim (cases_lt was.0 place) [
      | inl below ↦ irreflexive (key_of (row_at rows o)) (rw here at (gap.before was.0 below))
      | inr above ↦
          let greater = rw here at (gap.behind was.0 above was.1) in
          let same = tied_itself key_order_total (key_of (row_at rows o)) in
          absurd (cc)
    ]

-- no other place has the number
pub other_number : (rows : Rows) (numbers : List ℕ) (o place i : ℕ) → AreListed rows numbers → place < length numbers
    → slice_index numbers place ≡ o → i < length numbers → i ≢ place → slice_index numbers i ≢ o
other_number rows numbers o place i listed inside is within other = λ also.
    let same : key_at rows numbers i ≡ key_at rows numbers place = rw (is, also) refl in
    elim (cases_lt i place) [
      | inl below ↦ irreflexive (key_at rows numbers place) (rw same at (listed.rising i place below inside))
      | inr above ↦ irreflexive (key_at rows numbers place) (rw same at (listed.rising place i (omega arith) within))
    ]

-- the place that the search tells of an unswept object is the first, and where it tells a gap there is none
pub found_position : (rows : Rows) (counts by_place : List ℕ) (reuse : Bool) (free : List ℕ) (w : Words) (numbers : List ℕ) (kind : Kind) (name : List ℕ)
    (place : ℕ)
    → AreKept rows counts by_place reuse free w → AreListed rows numbers → is_session kind ≡ false → place < length numbers
    → key_order (key_at rows numbers place) (record { kind = kind; name = name }) ≡ Equal
    → Some (slice_index numbers place) ≡ position (has_name kind name) rows
found_position rows counts by_place reuse free w numbers kind name place kept listed named inside same =
    let has = found_has rows numbers kind name place listed inside same in
    position_alone (has_name kind name) rows (slice_index numbers place) None
    (listed_made rows numbers place listed inside) has
    (λ k other. kept.unique k (slice_index numbers place) kind name named other has)

pub gap_position : (rows : Rows) (numbers : List ℕ) (kind : Kind) (name : List ℕ) (place : ℕ) → AreListed rows numbers
    → is_session kind ≡ false → IsGap rows numbers (record { kind = kind; name = name }) place
    → None ≡ position (has_name kind name) rows
gap_position rows numbers kind name place listed named gap =
    position_nowhere (has_name kind name) rows None (gap_unnamed rows numbers kind name place listed named gap)

not_same : (a b : Bool) → not a ≡ not b → a ≡ b
not_same true true is = refl
not_same false false is = refl
not_same true false is = absurd (cc)
not_same false true is = absurd (cc)

-- no place for a new object is told exactly where the name is taken
pub told_taken : (rows : Rows) (numbers : List ℕ) (kind : Kind) (name : List ℕ) (r : Option ℕ) (b : Bool)
    → is_some r ≡ not b → IsNewPlace rows numbers kind name r → b ≡ is_taken kind name rows
told_taken rows numbers kind name None b is taken = not_same b true (sym is) ∙ sym taken
told_taken rows numbers kind name (Some place) b is free = not_same b false (sym is) ∙ sym free.0
