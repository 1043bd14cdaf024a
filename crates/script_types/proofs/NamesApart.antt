-- Lists of names of which no two are one.
use Rattle.std.proofs.Common.{◌≡◌, ◌⊎◌, inl, inr, List, ℕ, [], ◌∷◌, ◌++◌, sym, subst, ap, ◌∙◌, true, false}
use Rattle.std.specs.List.{list_any}
use Rattle.std.specs.Str.{bytes_eq}
use Rattle.std.proofs.lemmas.Bool.{or_parts, or_from, false_from_ne_true}
use Rattle.std.proofs.lemmas.List.{append_assoc}
use Rattle.std.proofs.lemmas.Slice.Eq.{bytes_eq-Decides}

-- no name stands in the list again behind its place
abbrev pub AreNamesApart : List (List ℕ) → Type 0
AreNamesApart [] = Unit {0}
AreNamesApart (x ∷ xs) = (list_any (bytes_eq x) xs ≡ false) × AreNamesApart xs

-- names that aren't one aren't one the other way round
other_way : (xs ys : List ℕ) → bytes_eq xs ys ≡ false → bytes_eq ys xs ≡ false
other_way xs ys apart =
    false_from_ne_true (bytes_eq ys xs) (λ same. let back : bytes_eq xs ys
    ≡ true = (bytes_eq-Decides xs ys).1 (sym ((bytes_eq-Decides ys xs).0 same)) in cc)

-- the same names, or with one more, put in somewhere
abbrev pub IsPut : List ℕ → List (List ℕ) → List (List ℕ) → Type 0
IsPut name xs ys = (ys ≡ xs) ⊎ ((a : List (List ℕ)) × (b : List (List ℕ)) × (xs ≡ a ++ b) × (ys ≡ a ++ name ∷ b))

-- behind other names
pub put_behind : (name : List ℕ) (front xs ys : List (List ℕ)) → IsPut name xs ys → IsPut name (front ++ xs) (front ++ ys)
put_behind name front xs ys (inl e) = inl (ap (λ (l : List (List ℕ)). front ++ l) e)
put_behind name front xs ys (inr put) = inr (
  front ++ put.0,
  put.1,
  ap (λ (l : List (List ℕ)). front ++ l) put.2 ∙ sym (append_assoc front put.0 put.1),
  ap (λ (l : List (List ℕ)). front ++ l) put.3 ∙ sym (append_assoc front put.0 (name ∷ put.1)),
)

none_among : (x name : List ℕ) (a b : List (List ℕ)) → bytes_eq x name ≡ false → list_any (bytes_eq x) (a ++ b) ≡ false
    → list_any (bytes_eq x) (a ++ name ∷ b) ≡ false
none_among x name [] b apart none = or_from (bytes_eq x name) (list_any (bytes_eq x) b) apart none
none_among x name (y ∷ ys) b apart none =
    let parts = or_parts (bytes_eq x y) (list_any (bytes_eq x) (ys ++ b)) none in
    or_from (bytes_eq x y) (list_any (bytes_eq x) (ys ++ name ∷ b)) parts.0 (none_among x name ys b apart parts.1)

apart_among : (name : List ℕ) (a b : List (List ℕ)) → list_any (bytes_eq name) (a ++ b) ≡ false → AreNamesApart (a ++ b) → AreNamesApart (a ++ name ∷ b)
apart_among name [] b none apart = (none, apart)
apart_among name (y ∷ ys) b none apart =
    let parts = or_parts (bytes_eq name y) (list_any (bytes_eq name) (ys ++ b)) none in
    (none_among y name ys b (other_way name y parts.0) apart.0, apart_among name ys b parts.1 apart.1)

-- what isn't among the names, nor the one that is put in, isn't among them then
pub none_put : (x name : List ℕ) (xs ys : List (List ℕ)) → IsPut name xs ys → bytes_eq x name ≡ false
    → list_any (bytes_eq x) xs ≡ false → list_any (bytes_eq x) ys ≡ false
none_put x name xs ys (inl e) apart none = ap (list_any (bytes_eq x)) e ∙ none
none_put x name xs ys (inr put) apart none =
    ap (list_any (bytes_eq x)) put.3
    ∙ none_among x name put.0 put.1 apart (ap (list_any (bytes_eq x)) (sym put.2) ∙ none)

-- a name that isn't among names that are apart leaves them so
pub apart_put : (name : List ℕ) (xs ys : List (List ℕ)) → IsPut name xs ys → list_any (bytes_eq name) xs ≡ false → AreNamesApart xs → AreNamesApart ys
apart_put name xs ys (inl e) none apart = subst AreNamesApart (sym e) apart
apart_put name xs ys (inr put) none apart =
    subst AreNamesApart (sym put.3) (apart_among name put.0 put.1 (ap (list_any (bytes_eq name)) (sym put.2) ∙ none)
    (subst AreNamesApart put.2 apart))
