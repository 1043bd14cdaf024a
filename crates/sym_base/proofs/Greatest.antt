-- What the first element of the greatest weight is.
use Rattle.std.proofs.Common.{◌≡◌, ℕ, suc, ◌<◌, ◌≤◌, false, eqb, ltb, List, [], ◌∷◌, map, refl, ap, ◌∙◌, subst, arith, inl, inr}
use Rattle.std.specs.Prelude.{Option, Some, None, All, filter, slice_get, option_map}
use Rattle.std.proofs.lemmas.Bool.{cases_Bool, ltb-true, ltb-false, eq-eqb, ne_eqb}
use Rattle.std.proofs.lemmas.List.Elements.{All-nil, All-cons, All-weaker}
use Rattle.sym_base.specs.Greatest.{unless_greater, first_of_greatest}

-- an element stands at a place of the list, none has a greater weight, and it is the first of its weight
pub record IsFirstOfGreatest {A : Type 0} (weight : A → ℕ) (list : List A) (x : A) : Type 0 where
  pub place : ℕ
  pub at : slice_get list place ≡ Some x
  pub greatest : All (λ y. weight y ≤ weight x) list
  pub first : slice_get (filter (λ y. eqb (weight y) (weight x)) list) 0 ≡ Some x

-- some element is chosen of a list that isn't empty
greater_some : {A : Type 0} (weight : A → ℕ) (x : A) (o : Option A) → unless_greater weight x o ≡ None → ⊥
greater_some weight x None none = absurd (cc)
greater_some weight x (Some y) none =
    elim (cases_Bool (ltb (weight x) (weight y))) [
      | inl above ↦ let is : Some y ≡ None = rw above at none in absurd (cc)
      | inr below ↦ let is : Some x ≡ None = rw below at none in absurd (cc)
    ]

pub none_greatest : {A : Type 0} (weight : A → ℕ) (list : List A) → first_of_greatest weight list ≡ None → list ≡ []
none_greatest weight [] none = refl
none_greatest weight (x ∷ later) none = absurd (greater_some weight x (first_of_greatest weight later) none)

-- the only one is the first of the greatest weight
first_alone : {A : Type 0} (weight : A → ℕ) (x : A) → IsFirstOfGreatest weight (x ∷ []) x
first_alone weight x = record {
  place = 0;
  at = refl;
  greatest = All-cons (λ y. weight y ≤ weight x) x [] (omega arith) (All-nil (λ y. weight y ≤ weight x));
  first = rw (eq-eqb (weight x) (weight x) refl) refl;
}

-- a later one is where its weight is greater
first_later : {A : Type 0} (weight : A → ℕ) (x z : A) (later : List A) → weight x < weight z
    → IsFirstOfGreatest weight later z → IsFirstOfGreatest weight (x ∷ later) z
first_later weight x z later above is = record {
  place = suc is.place;
  at = is.at;
  greatest = All-cons (λ y. weight y ≤ weight z) x later (omega arith) is.greatest;
  first = let other : eqb (weight x) (weight z) ≡ false = ne_eqb (weight x) (weight z) (λ e. omega arith) in rw other is.first;
}

-- and the first one is where no later one's is
first_earlier : {A : Type 0} (weight : A → ℕ) (x z : A) (later : List A) → weight z ≤ weight x
    → IsFirstOfGreatest weight later z → IsFirstOfGreatest weight (x ∷ later) x
first_earlier weight x z later below is = record {
  place = 0;
  at = refl;
  greatest =
      All-cons (λ y. weight y ≤ weight x) x later (omega arith)
      (All-weaker (λ y. weight y ≤ weight z) (λ y. weight y ≤ weight x) (λ y h. omega arith) later is.greatest);
  first = rw (eq-eqb (weight x) (weight x) refl) refl;
}

first_of : {A : Type 0} (weight : A → ℕ) (x : A) (later : List A) (o : Option A) (y : A)
    → first_of_greatest weight later ≡ o → ((z : A) → o ≡ Some z → IsFirstOfGreatest weight later z)
    → unless_greater weight x o ≡ Some y → IsFirstOfGreatest weight (x ∷ later) y
first_of weight x later None y none rest is =
    let same : x ≡ y = cc in
    let alone : IsFirstOfGreatest weight (x ∷ later) x = rw (none_greatest weight later none) (first_alone weight x) in
    subst (λ z. IsFirstOfGreatest weight (x ∷ later) z) same alone
first_of weight x later (Some z) y some rest is =
    let behind = rest z refl in
    elim (cases_Bool (ltb (weight x) (weight z))) [
      | inl above ↦
          let chosen : Some z ≡ Some y = rw above at is in
          let same : z ≡ y = cc in
          subst (λ b. IsFirstOfGreatest weight (x ∷ later) b) same (first_later weight x z later (ltb-true (weight x) (weight z) above) behind)
      | inr below ↦
          let chosen : Some x ≡ Some y = rw below at is in
          let same : x ≡ y = cc in
          subst (λ b. IsFirstOfGreatest weight (x ∷ later) b) same (first_earlier weight x z later (ltb-false (weight x) (weight z) below) behind)
    ]

-- what is chosen is the first of the greatest weight
pub is_first_of_greatest : {A : Type 0} (weight : A → ℕ) (list : List A) (x : A) → first_of_greatest weight list ≡ Some x → IsFirstOfGreatest weight list x
is_first_of_greatest weight [] x is = absurd (cc)
is_first_of_greatest weight (x ∷ later) y is =
    first_of weight x later (first_of_greatest weight later) y refl (λ z e. is_first_of_greatest weight later z e) is

-- the choice among images is the image of the choice
greater_map : {A B : Type 0} (weight : B → ℕ) (f : A → B) (x : A) (o : Option A)
    → unless_greater weight (f x) (option_map f o) ≡ option_map f (unless_greater (λ y. weight (f y)) x o)
greater_map weight f x None = refl
greater_map weight f x (Some y) =
    elim (cases_Bool (ltb (weight (f x)) (weight (f y)))) [ inl above ↦ rw above refl | inr below ↦ rw below refl ]

pub greatest_map : {A B : Type 0} (weight : B → ℕ) (f : A → B) (list : List A)
    → first_of_greatest weight (map f list) ≡ option_map f (first_of_greatest (λ x. weight (f x)) list)
greatest_map weight f [] = refl
greatest_map weight f (x ∷ later) =
    ap (unless_greater weight (f x)) (greatest_map weight f later) ∙ greater_map weight f x (first_of_greatest (λ y. weight (f y)) later)
