-- Lists of numbers and what they are seen as, with one number less.
use Rattle.std.proofs.Common.{◌≡◌, ◌≢◌, ℕ, zero, suc, ◌<◌, Bool, true, false, not, eqb, List, [], ◌∷◌, length, get_or, map, refl, sym, ap, ◌∙◌, arith, inl, inr, eq-eqb}
use Rattle.std.specs.Prelude.{Some, None, is_some, All, filter, option_map}
use Rattle.std.specs.List.{find, remove}
use Rattle.std.proofs.lemmas.Bool.{cases_Bool, ne_eqb}
use Rattle.std.proofs.lemmas.List.Elements.{All-cons, All-head, All-tail}

-- a list without the element at a place is the list without that element, where it stands once
pub removed_alone : (x : ℕ) (xs : List ℕ) (i : ℕ) → i < length xs → get_or xs i 0 ≡ x
    → ((k : ℕ) → k < length xs → k ≢ i → get_or xs k 0 ≢ x) → remove xs i ≡ filter (λ y. not (eqb y x)) xs
removed_alone x [] i inside at alone = absurd (omega arith)
removed_alone x (y ∷ ys) zero inside at alone =
    rw (eq-eqb y x at) (sym (none_gone ys (λ k short. alone (suc k) (omega arith) (λ e. omega arith))))
  where
    none_gone : (zs : List ℕ) → ((k : ℕ) → k < length zs → get_or zs k 0 ≢ x) → filter (λ z. not (eqb z x)) zs ≡ zs
    none_gone [] absent = refl
    none_gone (z ∷ zs) absent =
        rw (ne_eqb z x (absent 0 (omega arith))) (ap (λ (rest : List ℕ). z ∷ rest) (none_gone zs (λ k short. absent (suc k) (omega arith))))
removed_alone x (y ∷ ys) (suc i) inside at alone =
    rw (ne_eqb y x (alone 0 (omega arith) (λ e. omega arith)))
    (ap (λ (rest : List ℕ). y ∷ rest) (removed_alone x ys i (omega arith) at
    (λ k short other. alone (suc k) (omega arith) (λ e. other (omega arith)))))

-- what holds of all others still holds of them once a number is gone
pub All-others : (P Q : ℕ → Type 0) (x : ℕ) → ((y : ℕ) → y ≢ x → P y → Q y) → (xs : List ℕ) → All P xs → All Q (filter (λ y. not (eqb y x)) xs)
All-others P Q x keeps [] all = λ k d inside. absurd (omega arith)
All-others P Q x keeps (y ∷ ys) all =
    elim (cases_Bool (eqb y x)) [
      | inl same ↦ rw same (All-others P Q x keeps ys (All-tail P y ys all))
      | inr apart ↦
          rw apart (All-cons Q y (filter (λ z. not (eqb z x)) ys)
          (keeps y (λ e. let no : false ≡ true = sym apart ∙ eq-eqb y x e in absurd (cc)) (All-head P y ys all))
          (All-others P Q x keeps ys (All-tail P y ys all)))
    ]

module _ {Y : Type 0} where
  -- what numbers are seen as by two functions that agree on each of them
  pub map_alike : (f g : ℕ → Y) (xs : List ℕ) → All (λ x. f x ≡ g x) xs → map f xs ≡ map g xs
  map_alike f g [] all = refl
  map_alike f g (x ∷ xs) all =
      rw (All-head (λ y. f y ≡ g y) x xs all, map_alike f g xs (All-tail (λ y. f y ≡ g y) x xs all)) refl

  -- and once a number is gone whose meaning a test tells
  pub map_others : (f g : ℕ → Y) (p : Y → Bool) (x : ℕ) → ((y : ℕ) → y ≢ x → g y ≡ f y) → (xs : List ℕ)
      → All (λ y. eqb y x ≡ p (f y)) xs → map g (filter (λ y. not (eqb y x)) xs) ≡ filter (λ y. not (p y)) (map f xs)
  map_others f g p x keeps [] told = refl
  map_others f g p x keeps (y ∷ ys) told =
      let rest = map_others f g p x keeps ys (All-tail (λ z. eqb z x ≡ p (f z)) y ys told) in
      let here : eqb y x ≡ p (f y) = All-head (λ z. eqb z x ≡ p (f z)) y ys told in
      elim (cases_Bool (eqb y x)) [
        | inl same ↦ let passes : p (f y) ≡ true = sym here ∙ same in rw (same, passes) rest
        | inr apart ↦
            let fails : p (f y) ≡ false = sym here ∙ apart in
            rw (apart, fails, keeps y (λ e. let no : false ≡ true = sym apart ∙ eq-eqb y x e in absurd (cc)), rest) refl
      ]

-- the first element that passes a test, where it alone does, and none where none does
module _ {X : Type 0} where
  pub find_alone : (p : X → Bool) (xs : List X) (x : X) (i : ℕ) → i < length xs → get_or xs i x ≡ x → p x ≡ true
      → ((k : ℕ) → k < i → p (get_or xs k x) ≡ false) → find p xs ≡ Some x
  find_alone p [] x i inside at passes first = absurd (omega arith)
  find_alone p (y ∷ ys) x zero inside at passes first = rw (at, passes) refl
  find_alone p (y ∷ ys) x (suc i) inside at passes first =
      rw (first 0 (omega arith)) (find_alone p ys x i (omega arith) at passes (λ k low. first (suc k) (omega arith)))

  pub find_none : (p : X → Bool) (xs : List X) → All (λ x. p x ≡ false) xs → find p xs ≡ None
  find_none p [] all = refl
  find_none p (x ∷ xs) all = rw (All-head (λ y. p y ≡ false) x xs all) (find_none p xs (All-tail (λ y. p y ≡ false) x xs all))

  -- where one is found it stands at a place
  pub found_at : (p : X → Bool) (xs : List X) → is_some (find p xs) ≡ true → (k : ℕ) × (k < length xs) × ((d : X) → p (get_or xs k d) ≡ true)
  found_at p [] some = absurd (cc)
  found_at p (x ∷ xs) some =
      elim (cases_Bool (p x)) [
        | inl here ↦ (0, omega arith, λ d. here)
        | inr there ↦ let later = found_at p xs (rw there at some) in (suc later.0, omega (arith, later.1), λ d. later.2 d)
      ]

  -- where no element passes a test all others stay
  pub all_stay : (p : X → Bool) (xs : List X) → All (λ x. p x ≡ false) xs → filter (λ x. not (p x)) xs ≡ xs
  all_stay p [] all = refl
  all_stay p (x ∷ xs) all =
      rw (All-head (λ y. p y ≡ false) x xs all) (ap (λ (rest : List X). x ∷ rest) (all_stay p xs (All-tail (λ y. p y ≡ false) x xs all)))

module _ {X Y : Type 0} where
  -- those that are seen to pass a test
  pub filter_seen : (p : Y → Bool) (f : X → Y) (xs : List X) → filter p (map f xs) ≡ map f (filter (λ x. p (f x)) xs)
  filter_seen p f [] = refl
  filter_seen p f (x ∷ xs) =
      elim (cases_Bool (p (f x))) [
        | inl passes ↦ rw (passes, filter_seen p f xs) refl
        | inr fails ↦ rw (fails, filter_seen p f xs) refl
      ]

  pub find_seen : (p : Y → Bool) (f : X → Y) (xs : List X) → find p (map f xs) ≡ option_map f (find (λ x. p (f x)) xs)
  find_seen p f [] = refl
  find_seen p f (x ∷ xs) =
      elim (cases_Bool (p (f x))) [ inl passes ↦ rw passes refl | inr fails ↦ rw fails (find_seen p f xs) ]
