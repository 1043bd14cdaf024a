-- A list in which one item is made from the old one.
use Rattle.std.proofs.Common.{◌≡◌, inl, inr, ℕ, ◌+◌, List, get_or, refl, sym, ap, ◌∙◌, arith, Option, Some, None, false}
use Rattle.std.specs.Prelude.{◌==◌, if◌then◌else◌, is_some, option_map, slice_set}
use Rattle.std.proofs.lemmas.Bool.{cases_eq, eq-eqb}
use Rattle.std.proofs.lemmas.List.{get_or-set_other}
use Rattle.move_laws.proofs.Lists.Totals.{get-with}
use Rattle.move_laws.proofs.References.Same.{if_is, if_not, eqb_apart}

pub none_of : {A : Type 0} (x : Option A) → is_some x ≡ false → x ≡ None
none_of None e = refl
none_of (Some x) e = cc

pub is_none_of : {A : Type 0} (x : Option A) → x ≡ None → is_some x ≡ false
is_none_of x e = ap is_some e

-- the item that is made, and the others
pub made-here : {A : Type 0} (g : A → A) (d : A) (xs : List A) (i j : ℕ) → g d ≡ d → i ≡ j → get_or (slice_set xs i (g (get_or xs i d))) j d ≡ g (get_or xs j d)
made-here g d xs i j h at =
    ap (λ (n : ℕ). get_or (slice_set xs i (g (get_or xs i d))) n d) (sym at)
    ∙ get-with g d xs i h
    ∙ ap (λ (n : ℕ). g (get_or xs n d)) at

pub made-other : {A : Type 0} (g : A → A) (d : A) (xs : List A) (i j : ℕ) → (i ≡ j → ⊥) → get_or (slice_set xs i (g (get_or xs i d))) j d ≡ get_or xs j d
made-other g d xs i j apart = get_or-set_other xs i j (g (get_or xs i d)) d (λ e. apart (sym e))

kept_by : {A B : Type 0} (q : Option A → B) (f : A → A) (x : Option A) → ((row : A) → q (Some (f row)) ≡ q (Some row)) → q (option_map f x) ≡ q x
kept_by q f None keeps = refl
kept_by q f (Some row) keeps = keeps row

-- what is read off each row and stays in the one that changes
pub mapped-value : {A B : Type 0} (q : Option A → B) (f : A → A) (rows : List (Option A)) (i j : ℕ)
    → ((row : A) → q (Some (f row)) ≡ q (Some row))
    → q (get_or (slice_set rows i (option_map f (get_or rows i None))) j None) ≡ q (get_or rows j None)
mapped-value q f rows i j keeps =
    elim (cases_eq i j) as (λ _. q (get_or (slice_set rows i (option_map f (get_or rows i None))) j None)
    ≡ q (get_or rows j None)) [
      | inl at ↦ ap q (made-here (option_map f) None rows i j refl at) ∙ kept_by q f (get_or rows j None) keeps
      | inr apart ↦ ap q (made-other (option_map f) None rows i j apart)
    ]

-- so is whether there is a row
pub mapped-some : {A : Type 0} (f : A → A) (rows : List (Option A)) (i j : ℕ)
    → is_some (get_or (slice_set rows i (option_map f (get_or rows i None))) j None) ≡ is_some (get_or rows j None)
mapped-some f rows i j = mapped-value is_some f rows i j (λ row. refl)

pub mapped-none : {A : Type 0} (f : A → A) (rows : List (Option A)) (i j : ℕ) → get_or rows j None ≡ None
    → get_or (slice_set rows i (option_map f (get_or rows i None))) j None ≡ None
mapped-none f rows i j none =
    none_of (get_or (slice_set rows i (option_map f (get_or rows i None))) j None)
    (mapped-some f rows i j ∙ is_none_of (get_or rows j None) none)

-- a number of each item
pub number-made : {A : Type 0} (q : A → ℕ) (g : A → A) (d : A) (xs : List A) (i j : ℕ) → g d ≡ d
    → q (get_or (slice_set xs i (g (get_or xs i d))) j d) + (if i == j then q (get_or xs i d) else 0)
    ≡ q (get_or xs j d) + (if i == j then q (g (get_or xs i d)) else 0)
number-made q g d xs i j h =
    let old = get_or xs i d in
    elim (cases_eq i j) as (λ _. q (get_or (slice_set xs i (g old)) j d) + (if i == j then q old else 0)
    ≡ q (get_or xs j d) + (if i == j then q (g old) else 0)) [
      | inl at ↦
          let a = if_is (i == j) (q old) (eq-eqb i j at) in
          let b = if_is (i == j) (q (g old)) (eq-eqb i j at) in
          let c : q (get_or (slice_set xs i (g old)) j d)
          ≡ q (g old) = ap (λ (n : ℕ). q (get_or (slice_set xs i (g old)) n d)) (sym at) ∙ ap q (get-with g d xs i h) in
          let e : q (get_or xs j d) ≡ q old = ap (λ (n : ℕ). q (get_or xs n d)) (sym at) in omega arith
      | inr apart ↦
          let a = if_not (i == j) (q old) (eqb_apart i j apart) in
          let b = if_not (i == j) (q (g old)) (eqb_apart i j apart) in
          let c = ap q (made-other g d xs i j apart) in omega arith
    ]
