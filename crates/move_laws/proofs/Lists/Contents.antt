-- What stands in a list, also in one that is filtered or mapped, and what is found in it.
use Rattle.std.proofs.Common.{◌≡◌, inl, inr, ℕ, zero, suc, ◌+◌, ◌<◌, ◌≤◌, Bool, true, false, List, [], ◌∷◌, length, map, get_or, arith, refl, subst, Some}
use Rattle.std.specs.Prelude.{Contains, cond, filter, find, if◌then◌else◌}
use Rattle.std.proofs.lemmas.Bool.{cases_lt}
use Rattle.machine.specs.References.{total}

pub none_contained : {A : Type 0} (x : A) → Contains [] x → ⊥
none_contained x h = let below = h.1 in absurd (omega arith)

pub contains_first : {A : Type 0} (xs : List A) (x : A) → Contains (x ∷ xs) x
contains_first xs x = (0, omega arith, refl)

pub contains_behind : {A : Type 0} (y : A) (xs : List A) (x : A) → Contains xs x → Contains (y ∷ xs) x
contains_behind y xs x h = let below = h.1 in (suc h.0, omega arith, h.2)

-- what stands in a list is its first, or stands behind that
pub contains_cases : {A : Type 0} (P : A → Type 0) (y : A) (xs : List A) (x : A) → Contains (y ∷ xs) x → P y → ((z : A) → Contains xs z → P z) → P x
contains_cases {A} P y xs x h first behind = by h.0 h.1 h.2
  where
    by : (k : ℕ) → k < length (y ∷ xs) → get_or (y ∷ xs) k x ≡ x → P x
    by zero below at = subst P at first
    by (suc k) below at = behind x (k, omega arith, at)

-- what stands in a list that is mapped or filtered
pub contains_map : {A B : Type 0} (g : A → B) (xs : List A) (y : B) → Contains (map g xs) y → (x : A) × Contains xs x × (g x ≡ y)
contains_map g [] y h = absurd (none_contained y h)
contains_map {A} g (x ∷ xs) y h = contains_cases (λ z. (w : A) × Contains (x ∷ xs) w × (g w ≡ z)) (g x) (map g xs) y h
    (x, contains_first xs x, refl)
    (λ z there. let was = contains_map g xs z there in (was.0, contains_behind x xs was.0 was.1, was.2))

pub contains_filter : {A : Type 0} (p : A → Bool) (xs : List A) (y : A) → Contains (filter p xs) y → Contains xs y
contains_filter p [] y h = h
contains_filter {A} p (x ∷ xs) y h = by (p x) (λ z. contains_filter p xs z) h
  where
    by : (b : Bool) → ((z : A) → Contains (filter p xs) z → Contains xs z) → Contains (if b then x ∷ filter p xs else filter p xs) y → Contains (x ∷ xs) y
    by true rest h = contains_cases (λ z. Contains (x ∷ xs) z) x (filter p xs) y h (contains_first xs x) (λ z there. contains_behind x xs z (rest z there))
    by false rest h = contains_behind x xs y (rest y h)

-- a sum over the items of a list that is mapped, where the number of each stays
pub total-map : {A B : Type 0} (f : B → ℕ) (h : A → ℕ) (g : A → B) (xs : List A) → ((x : A) → f (g x) ≡ h x) → total f (map g xs) ≡ total h xs
total-map f h g [] same = refl
total-map f h g (x ∷ xs) same = let a = same x in let b = total-map f h g xs same in omega arith

-- where a sum isn't 0 some item has a part in it
pub total_some : {A : Type 0} (f : A → ℕ) (xs : List A) → 0 < total f xs → (x : A) × Contains xs x × (0 < f x)
total_some f [] some = absurd (omega arith)
total_some {A} f (x ∷ xs) some = elim (cases_lt 0 (f x)) as (λ _. (y : A) × Contains (x ∷ xs) y × (0 < f y)) [
  | inl here ↦ (x, contains_first xs x, here)
  | inr none ↦ let there = total_some f xs (omega arith) in (there.0, contains_behind x xs there.0 there.1, there.2)
]

-- what is found stands in the list and passes
pub found_there : {A : Type 0} (p : A → Bool) (xs : List A) (x : A) → find p xs ≡ Some x → Contains xs x × (p x ≡ true)
found_there p [] x found = absurd (cc)
found_there {A} p (y ∷ ys) x found = by (p y) refl (found_there p ys x) found
  where
    by : (b : Bool) → p y ≡ b → (find p ys ≡ Some x → Contains ys x × (p x ≡ true)) → cond b (Some y) (find p ys) ≡ Some x → Contains (y ∷ ys) x × (p x ≡ true)
    by true is rest e = let same : y ≡ x = cc in subst (λ z. Contains (y ∷ ys) z × (p z ≡ true)) same (contains_first ys y, is)
    by false is rest e = let there = rest e in (contains_behind y ys x there.0, there.1)

-- an item's part in a sum is at most the sum
pub contains_total : {A : Type 0} (f : A → ℕ) (xs : List A) (x : A) → Contains xs x → f x ≤ total f xs
contains_total f [] x h = absurd (none_contained x h)
contains_total f (y ∷ ys) x h =
    contains_cases (λ z. f z ≤ f y + total f ys) y ys x h (omega arith)
    (λ z there. let a = contains_total f ys z there in omega arith)

-- what stands in a list stands in one that is mapped
pub map_contains : {A B : Type 0} (g : A → B) (xs : List A) (x : A) → Contains xs x → Contains (map g xs) (g x)
map_contains g [] x there = absurd (none_contained x there)
map_contains {A} g (y ∷ ys) x there =
    contains_cases (λ z. Contains (map g (y ∷ ys)) (g z)) y ys x there (contains_first (map g ys) (g y))
    (λ z behind. contains_behind (g y) (map g ys) (g z) (map_contains g ys z behind))

-- what passes a filter stands in what it leaves
pub filter_contains : {A : Type 0} (p : A → Bool) (xs : List A) (y : A) → Contains xs y → p y ≡ true → Contains (filter p xs) y
filter_contains p [] y there passes = there
filter_contains {A} p (x ∷ xs) y there passes = by (p x) refl (λ z. filter_contains p xs z)
  where
    by : (b : Bool) → p x ≡ b → ((z : A) → Contains xs z → p z ≡ true → Contains (filter p xs) z) → Contains (if b then x ∷ filter p xs else filter p xs) y
    by true is rest = contains_cases (λ z. p z ≡ true → Contains (x ∷ filter p xs) z) x xs y there
        (λ _. contains_first (filter p xs) x) (λ z behind ok. contains_behind x (filter p xs) z (rest z behind ok)) passes
    by false is rest = contains_cases (λ z. p z ≡ true → Contains (filter p xs) z) x xs y there (λ ok. absurd (cc)) (λ z behind ok. rest z behind ok) passes
