-- Passes that are dealt one by one, and come back one by one.
use Rattle.std.proofs.Common.{◌≡◌, ℕ, zero, suc, ◌+◌, ◌-◌, ◌<◌, List, [], ◌∷◌, ◌++◌, map, length, get_or, sym, refl, ap, ◌∙◌, subst, append_assoc, arith}
use Rattle.std.specs.Prelude.{Option, Some, All, Contains, IfSome}
use Rattle.std.specs.Option.{option_to_list}
use Rattle.std.proofs.lemmas.List.{map-append}
use Rattle.std.proofs.lemmas.List.Elements.{All-pop}
use Rattle.atomic_table.specs.Table.{Me}
use Rattle.turn_lock.specs.declared.view.Sight.{Sight}
use Rattle.turn_lock.specs.declared.view.View.{View}
use Rattle.turn_lock.specs.declared.view.View.TheVariants.{Free}
use Rattle.turn_lock.specs.Views.{sight, newcomers}
use Rattle.turn_lock.specs.Passes.{numbers}

newcomers_next : {B : Type 0} (base : B) (passes i n : ℕ) → i < n
    → newcomers base passes i (n - i) ≡ sight base passes i [] ∷ newcomers base passes (i + 1) (n - (i + 1))
newcomers_next base passes i n h = let e : n - i ≡ suc (n - (i + 1)) = omega arith in ap (newcomers base passes i) e

-- a seat that knows for the callers from one on knows for that one and for the others
pub next_is_first : {S B : Type 0} (base : B) (passes i n : ℕ) (me : Me S (View B)) → me ≡ (Free (newcomers base passes i (n - i)), []) → i < n
    → me ≡ (Free (sight base passes i [] ∷ newcomers base passes (i + 1) (n - (i + 1))), [])
next_is_first {B = B} base passes i n me e h = e ∙ ap (λ (l : List (Sight B)). (Free l, [])) (newcomers_next base passes i n h)

numbers_after : (from n : ℕ) → numbers from (suc n) ≡ numbers from n ++ (from + n) ∷ []
numbers_after from zero = let e : from ≡ from + 0 = omega arith in ap (λ (k : ℕ). k ∷ []) e
numbers_after from (suc n) = let e : (from + 1) + n ≡ from + suc n = omega arith in
    ap (λ l. from ∷ l) (numbers_after (from + 1) n ∙ ap (λ (k : ℕ). numbers (from + 1) n ++ k ∷ []) e)

pub numbers_next : (n : ℕ) → numbers 0 (n + 1) ≡ numbers 0 n ++ n ∷ []
numbers_next n =
    let e : n + 1 ≡ suc n = omega arith in
    let z : 0 + n ≡ n = omega arith in
    ap (numbers 0) e ∙ (numbers_after 0 n ∙ ap (λ (k : ℕ). numbers 0 n ++ k ∷ []) z)

module _ {A : Type 0} where
  pub mapped_next : {C : Type 0} (f : A → C) (xs ys : List A) (p : A) (fs : List C) (c : C) → ys ≡ xs ++ p ∷ []
      → map f xs ≡ fs → f p ≡ c → map f ys ≡ fs ++ c ∷ []
  mapped_next f xs ys p fs c e h k = ap (map f) e ∙ (map-append f xs (p ∷ []) ∙ (λ i. h i ++ k i ∷ []))

  pub popped : (xs ys : List A) (r : Option A) (p : A) → xs ≡ ys ++ option_to_list r → r ≡ Some p → xs ≡ ys ++ p ∷ []
  popped xs ys r p e is = e ∙ ap (λ (o : Option A). ys ++ option_to_list o) is

  pub popped_all : (P : A → Type 0) (xs ys : List A) (r : Option A) (p : A) → xs ≡ ys ++ option_to_list r → r ≡ Some p → All P xs → All P ys × P p
  popped_all P xs ys r p e is all = let a = All-pop P xs ys r e all in (a.0, subst (λ (o : Option A). IfSome o P) is a.1)

  pub gathered : {C : Type 0} (f : A → C) (xs ys : List A) (p : A) (known all : List C) → xs ≡ ys ++ p ∷ []
      → map f xs ++ known ≡ all → map f ys ++ (f p ∷ known) ≡ all
  gathered f xs ys p known all e h =
      sym (append_assoc (map f ys) (f p ∷ []) known)
      ∙ (ap (λ l. l ++ known) (sym (map-append f ys (p ∷ [])) ∙ ap (map f) (sym e)) ∙ h)

number_at : (from n k d : ℕ) → k < n → get_or (numbers from n) k d ≡ from + k
number_at from zero k d h = absurd (omega arith)
number_at from (suc n) zero d h = omega arith
number_at from (suc n) (suc k) d h = let e : (from + 1) + k ≡ from + suc k = omega arith in number_at (from + 1) n k d (omega arith) ∙ e

length_numbers : (from n : ℕ) → length (numbers from n) ≡ n
length_numbers from zero = refl
length_numbers from (suc n) = ap suc (length_numbers (from + 1) n)

-- each number below n is among the numbers from 0 on
pub contains_number : (xs : List ℕ) (n k : ℕ) → xs ≡ numbers 0 n → k < n → Contains xs k
contains_number xs n k e h = let l : length xs ≡ n = ap length e ∙ length_numbers 0 n in let z : 0 + k ≡ k = omega arith in
    (k, omega arith, ap (λ (ys : List ℕ). get_or ys k k) e ∙ (number_at 0 n k k h ∙ z))

-- passes that have the callers of others, place by place, have the same callers
pub mapped_each : {A D : Type 0} (f : A → D) (xs ys : List A) → length ys ≡ length xs
    → ((i : ℕ) (d : A) → i < length xs → f (get_or ys i d) ≡ f (get_or xs i d)) → map f ys ≡ map f xs
mapped_each f [] [] e h = refl
mapped_each f [] (y ∷ ys) e h = absurd (omega arith)
mapped_each f (x ∷ xs) [] e h = absurd (omega arith)
mapped_each f (x ∷ xs) (y ∷ ys) e h =
    let head : f y ≡ f x = h 0 y (omega arith) in let rest = mapped_each f xs ys (omega arith) (λ i d l. h (suc i) d (omega arith)) in λ i. head i ∷ rest i
