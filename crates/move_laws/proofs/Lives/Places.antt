-- The places of objects, where objects are made, die and are swept, and where threads find them and come back.
use Rattle.std.proofs.Common.{◌≡◌, ◌⊎◌, inl, inr, ℕ, ◌+◌, ◌<◌, ◌≤◌, Bool, true, false, List, length, get_or, arith, refl, sym, ap, subst, ◌∙◌, Option, Some, None}
use Rattle.std.proofs.lemmas.Bool.{cases_eq}
use Rattle.sym_base.specs.declared.number.ObjNo.{ObjNo}
use Rattle.state_rows.specs.ObjectRows.{next_number, with_object}
use Rattle.state_rows.specs.declared.object.ObjectRow.{ObjectRow}
use Rattle.machine.specs.declared.mode.Mode.{Mode}
use Rattle.machine.specs.declared.state.State.{State}
use Rattle.machine.specs.Out.{seeks}
use Rattle.machine.specs.References.{total}
use Rattle.machine.specs.Rows.{object_of}
use Rattle.machine.specs.WellFormed.{ArePlaces}
use Rattle.move_laws.proofs.Lives.NewObjects.{IsLonger, made-long, made-other, made-own, next_number_is}
use Rattle.move_laws.proofs.Lives.Outs.{SeeksSame}

-- the objects, the number of makings and the mode stay
abbrev pub SameObjects : State → State → Type 0
SameObjects S T = (T.mode ≡ S.mode) × (T.references.objects ≡ S.references.objects) × (T.references.made ≡ S.references.made)

-- the object of a number has this place
pub record HasPlace (S : State) (o : ObjNo) (place : ℕ) : Type 0 where
  pub row : ObjectRow
  pub is : object_of S o ≡ Some row
  pub place_is : row.place ≡ place

-- whoever is out was out, or found an object that is there
abbrev pub OutsFound : State → State → Type 0
OutsFound S T = (o : ObjNo) (place : ℕ) → 0 < total (seeks o place) T.references.threads
    → (0 < total (seeks o place) S.references.threads) ⊎ HasPlace S o place

pub outs-found : (S T : State) → SeeksSame S.references.threads T.references.threads → OutsFound S T
outs-found S T seek o place some = let a = seek o place in inl (omega arith)

-- rows that are those of other objects, but for what a death changes
abbrev pub StoodAs : List (Option ObjectRow) → ℕ → ObjectRow → Type 0
StoodAs objects k row = (old : ObjectRow) × (get_or objects k None ≡ Some old) × (old.place ≡ row.place) × (old.dead ≡ true → row.dead ≡ true)

abbrev pub PlacesOf : List (Option ObjectRow) → List (Option ObjectRow) → Type 0
PlacesOf objects other = (k : ℕ) (row : ObjectRow) → get_or other k None ≡ Some row → StoodAs objects k row

-- each object that is there was there, or was made since: so a place whose object died or was swept is nobody's again
pub record Renews (S T : State) : Type 0 where
  pub more : S.references.made ≤ T.references.made
  pub stood : (k : ℕ) (row : ObjectRow) → get_or T.references.objects k None ≡ Some row
      → StoodAs S.references.objects k row ⊎ (S.references.made ≤ row.place)

pub renews-kept : (S T : State) → T.references.made ≡ S.references.made → PlacesOf S.references.objects T.references.objects → Renews S T
renews-kept S T made rows = record { more = omega arith; stood = λ k row is. inl (rows k row is) }

pub renews-then : (S T U : State) → Renews S T → Renews T U → Renews S U
renews-then S T U l m = record {
  more = let a = l.more in let b = m.more in omega arith;
  stood = λ k row is. elim (m.stood k row is) as (λ _. StoodAs S.references.objects k row ⊎ (S.references.made ≤ row.place)) [
    | inr new ↦ inr (let a = l.more in omega arith)
    | inl mid ↦ elim (l.stood k mid.0 mid.1) as (λ _. StoodAs S.references.objects k row ⊎ (S.references.made ≤ row.place)) [
      | inr new ↦ inr (let place = mid.2 in omega arith)
      | inl old ↦ inl (old.0, old.1, old.2 ∙ mid.2, λ dead. mid.3 (old.3 dead))
    ]
  ];
}

-- where no object is made
pub places-kept : (S T : State) → T.mode ≡ S.mode → T.references.made ≡ S.references.made
    → length T.references.objects ≡ length S.references.objects → PlacesOf S.references.objects T.references.objects
    → OutsFound S T → ArePlaces S.mode.reuse S.references → ArePlaces T.mode.reuse T.references
places-kept S T mode made long rows outs h = record {
  below = λ k row is. let old = rows k row is in let a = h.below k old.0 old.1 in let b = old.2 in omega arith;
  apart = λ j k one other is there same.
      let a = rows j one is in
      let b = rows k other there in
      let x = a.2 in let y = b.2 in h.apart j k a.0 b.0 a.1 b.1 (omega arith);
  sought = λ o place some. elim (outs o place some) as (λ _. place < T.references.made) [
    | inl was ↦ let a = h.sought o place was in omega arith
    | inr has ↦ let a = h.below o.0 has.row has.is in let b = has.place_is in omega arith
  ];
  found = λ o k row is some.
      let old = rows k row is in
      elim (outs o row.place some) as (λ _. k ≡ o.0) [
        | inl was ↦ h.found o k old.0 old.1 (subst (λ (n : ℕ). 0 < total (seeks o n) S.references.threads) (sym old.2) was)
        | inr has ↦ let same = old.2 in let b = has.place_is in h.apart k o.0 old.0 has.row old.1 has.is (omega arith)
      ];
  makings = λ first. let a = h.makings (sym (ap (λ (m : Mode). m.reuse) mode) ∙ first) in omega arith;
  numbers = λ first k row is.
      let old = rows k row is in
      let a = h.numbers (sym (ap (λ (m : Mode). m.reuse) mode) ∙ first) k old.0 old.1 in let b = old.2 in omega arith;
}

same-places : (S T : State) → SameObjects S T → PlacesOf S.references.objects T.references.objects
same-places S T same k row is = (row, sym (ap (λ (os : List (Option ObjectRow)). get_or os k None) same.1) ∙ is, refl, λ dead. dead)

pub places-same : (S T : State) → SameObjects S T → OutsFound S T → ArePlaces S.mode.reuse S.references → ArePlaces T.mode.reuse T.references
places-same S T same outs h =
    places-kept S T same.0 same.2 (ap length same.1) (same-places S T same) outs h

pub renews-same : (S T : State) → SameObjects S T → Renews S T
renews-same S T same = renews-kept S T same.2 (same-places S T same)

-- where one is made: its place is a new one
pub either-made : (rows other : List (Option ObjectRow)) (n : ℕ) (row : ObjectRow) → n ≤ length rows → other ≡ with_object rows n row
    → (k : ℕ) (new : ObjectRow) → get_or other k None ≡ Some new → ((k ≡ n) × (row ≡ new)) ⊎ (get_or rows k None ≡ Some new)
either-made rows other n row le objects k new is =
    let here : get_or (with_object rows n row) k None ≡ Some new = sym (ap (λ (os : List (Option ObjectRow)). get_or os k None) objects) ∙ is in
    elim (cases_eq k n) as (λ _. ((k ≡ n) × (row ≡ new)) ⊎ (get_or rows k None ≡ Some new)) [
      | inl at ↦
          let own : Some row ≡ Some new = sym (made-own rows n row le) ∙ ap (λ (i : ℕ). get_or (with_object rows n row) i None) (sym at) ∙ here in
          inl (at, (let e : row ≡ new = cc in e))
      | inr apart ↦ inr (sym (made-other rows n k row le apart) ∙ here)
    ]

pub renews-made : (S T : State) (row : ObjectRow) → row.place ≡ S.references.made
    → T.references.objects ≡ with_object S.references.objects (next_number S.mode.reuse S.references.objects) row
    → T.references.made ≡ S.references.made + 1 → Renews S T
renews-made S T row place objects made = record {
  more = omega arith;
  stood = λ k new is. elim (either-made S.references.objects T.references.objects (next_number S.mode.reuse S.references.objects) row
      (next_number_is S.mode.reuse S.references.objects).0 objects k new is) as (λ _. StoodAs S.references.objects k new ⊎ (S.references.made ≤ new.place)) [
        | inl own ↦ inr (let e : row.place ≡ new.place = ap (λ (r : ObjectRow). r.place) own.1 in omega arith)
        | inr old ↦ inl (new, old, refl, λ dead. dead)
      ];
}

pub places-made : (S T : State) (row : ObjectRow) → T.mode ≡ S.mode → row.place ≡ S.references.made
    → T.references.objects ≡ with_object S.references.objects (next_number S.mode.reuse S.references.objects) row
    → T.references.made ≡ S.references.made + 1 → SeeksSame S.references.threads T.references.threads
    → ArePlaces S.mode.reuse S.references → ArePlaces T.mode.reuse T.references
places-made S T row mode place objects made seek h = record {
  below = λ k new is. elim (either k new is) as (λ _. new.place < T.references.made) [
    | inl own ↦ let e : new.place ≡ row.place = ap (λ (r : ObjectRow). r.place) (sym own.1) in omega arith
    | inr old ↦ let a = h.below k new old in omega arith
  ];
  apart = λ j k one other is there same. elim (either j one is) as (λ _. j ≡ k) [
    | inl own ↦
        let e : one.place ≡ row.place = ap (λ (r : ObjectRow). r.place) (sym own.1) in
        elim (either k other there) as (λ _. j ≡ k) [
          | inl too ↦ own.0 ∙ sym too.0
          | inr old ↦ let a = h.below k other old in absurd (omega arith)
        ]
    | inr old ↦ elim (either k other there) as (λ _. j ≡ k) [
      | inl own ↦ let e : other.place ≡ row.place = ap (λ (r : ObjectRow). r.place) (sym own.1) in let a = h.below j one old in absurd (omega arith)
      | inr too ↦ h.apart j k one other old too same
    ]
  ];
  sought = λ o p some. let a = seek o p in let b = h.sought o p (omega arith) in omega arith;
  found = λ o k new is some.
      let a = seek o new.place in
      elim (either k new is) as (λ _. k ≡ o.0) [
        | inl own ↦
            let e : new.place ≡ row.place = ap (λ (r : ObjectRow). r.place) (sym own.1) in
            let b = h.sought o new.place (omega arith) in absurd (omega arith)
        | inr old ↦ h.found o k new old (omega arith)
      ];
  makings = λ first.
      let was = sym (ap (λ (m : Mode). m.reuse) mode) ∙ first in
      let a = h.makings was in let at = comes_next was in let b = long.grows (omega arith) in let c = ap length objects in omega arith;
  numbers = λ first k new is.
      let was = sym (ap (λ (m : Mode). m.reuse) mode) ∙ first in
      elim (either k new is) as (λ _. new.place ≡ k) [
        | inl own ↦
            let e : new.place ≡ row.place = ap (λ (r : ObjectRow). r.place) (sym own.1) in
            let a = h.makings was in let b = comes_next was in let c = own.0 in omega arith
        | inr old ↦ h.numbers was k new old
      ];
}
  where
    rows : List (Option ObjectRow)
    rows = S.references.objects

    n : ℕ
    n = next_number S.mode.reuse rows

    le : n ≤ length rows
    le = (next_number_is S.mode.reuse rows).0

    long : IsLonger rows (with_object rows n row) n
    long = made-long rows n row le

    comes_next : S.mode.reuse ≡ false → n ≡ length rows
    comes_next first = ap (λ (reuse : Bool). next_number reuse rows) first

    either : (k : ℕ) (new : ObjectRow) → get_or T.references.objects k None ≡ Some new
        → ((k ≡ n) × (row ≡ new)) ⊎ (get_or rows k None ≡ Some new)
    either k new is = either-made rows T.references.objects n row le objects k new is
