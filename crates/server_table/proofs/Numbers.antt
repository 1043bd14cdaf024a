-- Lists of numbers: whether one holds a number, and what it is with a number more or less.
use Rattle.std.proofs.Common.{◌≡◌, ◌≢◌, ℕ, zero, suc, ◌<◌, true, false, ◌||◌, eqb, List, [], ◌∷◌, ◌++◌, length, get_or, replicate, refl, sym, ap, ◌∙◌, inl, inr, eq-eqb}
use Rattle.std.specs.Prelude.{Option, Some, None, is_some, slice_get}
use Rattle.std.specs.List.{list_any}
use Rattle.std.proofs.lemmas.Bool.{cases_Bool, cases_lt, eqb-true, ne_eqb}
use Rattle.std.proofs.lemmas.List.{get_or_past, get_or_read}
use Rattle.std.proofs.lemmas.List.Folds.{Any-from_list_any, list_any_at}
use Rattle.std.proofs.lemmas.Option.{slice_get_within, get_or_from_slice_get}
use Rattle.links.specs.Linked.{holds, without}
use Rattle.links.proofs.Marks.{read_some}

-- what stands at a place is held, and what is held stands at one
pub holds_at : (xs : List ℕ) (k x : ℕ) → slice_get xs k ≡ Some x → holds x xs ≡ true
holds_at xs k x at =
    list_any_at (λ y. eqb y x) xs k x (slice_get_within xs k x at) (eq-eqb (get_or xs k x) x (get_or_from_slice_get xs k x x at))

pub stands_at : (xs : List ℕ) (x : ℕ) → holds x xs ≡ true → (k : ℕ) × (slice_get xs k ≡ Some x)
stands_at xs x held =
    let some = Any-from_list_any (λ y. eqb y x) xs held in
    let is : some.1 ≡ x = eqb-true some.1 x some.4 in
    (some.0, read_some xs some.0 x some.1 some.2 (some.3 ∙ is))

-- one of some lists holds what they hold
pub listed_at : (lists : List (List ℕ)) (x : ℕ) → list_any (holds x) lists ≡ true → (l : ℕ) × (holds x (get_or lists l []) ≡ true)
listed_at lists x held =
    let some = Any-from_list_any (holds x) lists held in
    let at : some.1 ≡ get_or lists some.0 [] = get_or_read lists some.0 some.1 some.2 (sym some.3) [] in
    (some.0, rw (← at) some.4)

-- a number that came last is held, and the others as before
pub holds_last : (x : ℕ) (xs : List ℕ) → holds x (xs ++ x ∷ []) ≡ true
holds_last x [] = rw (eq-eqb x x refl) refl
holds_last x (y ∷ xs) = rw (holds_last x xs) (elim (eqb y x) as (λ b. (b || true) ≡ true) [ true ↦ refl | false ↦ refl ])

pub holds_before : (x y : ℕ) → x ≢ y → (xs : List ℕ) → holds x (xs ++ y ∷ []) ≡ holds x xs
holds_before x y other [] = rw (ne_eqb y x (λ e. other (sym e))) refl
holds_before x y other (z ∷ xs) = ap (λ b. eqb z x || b) (holds_before x y other xs)

-- a number that left isn't held, and the others are as before
pub holds_gone : (x : ℕ) (xs : List ℕ) → holds x (without x xs) ≡ false
holds_gone x [] = refl
holds_gone x (y ∷ xs) =
    elim (cases_Bool (eqb y x)) [
      | inl same ↦ rw same (holds_gone x xs)
      | inr other ↦ rw (other, other) (holds_gone x xs)
    ]

pub holds_rest : (x y : ℕ) → x ≢ y → (xs : List ℕ) → holds x (without y xs) ≡ holds x xs
holds_rest x y other [] = refl
holds_rest x y other (z ∷ xs) =
    elim (cases_Bool (eqb z y)) [
      | inl same ↦ rw (same, ne_eqb z x (λ e. other (sym e ∙ eqb-true z y same))) (holds_rest x y other xs)
      | inr apart ↦ rw apart (ap (λ b. eqb z x || b) (holds_rest x y other xs))
    ]

-- each element of a list of one value is that value
pub replicated : {X : Type 0} (n k : ℕ) (x : X) → get_or (replicate n x) k x ≡ x
replicated zero k x = refl
replicated (suc n) zero x = refl
replicated (suc n) (suc k) x = replicated n k x

-- a row that there is stands below the number of rows
pub some_below : {X : Type 0} (rows : List (Option X)) (k : ℕ) → is_some (get_or rows k None) ≡ true → k < length rows
some_below rows k some =
    elim (cases_lt k (length rows)) [
      | inl inside ↦ inside
      | inr past ↦ let no : false ≡ true = rw (get_or_past rows k None past) at some in absurd (cc)
    ]
