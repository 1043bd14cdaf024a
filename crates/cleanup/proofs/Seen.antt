-- Lists of nodes under two meanings, and the first of many lists.
use Rattle.std.proofs.Common.{◌≡◌, ℕ, zero, suc, ◌<◌, true, false, List, [], ◌∷◌, map, set, take, drop, get_or, refl, ap, arith}
use Rattle.std.specs.Prelude.{Some, slice_get}

-- no test has both answers
pub both_tests : false ≡ true → ⊥
both_tests same = absurd (cc)

module _ {X : Type 0} where
  -- the first lists, with one of them changed
  pub take_set : (n i : ℕ) (xs : List X) (y : X) → i < n → take n (set xs i y) ≡ set (take n xs) i y
  take_set zero i xs y low = absurd (omega arith)
  take_set (suc n) i [] y low = refl
  take_set (suc n) zero (x ∷ xs) y low = refl
  take_set (suc n) (suc i) (x ∷ xs) y low = ap (λ (rest : List X). x ∷ rest) (take_set n i xs y (omega arith))

  -- two meanings that agree at each node give one list
  map_same : (f g : ℕ → X) (xs : List ℕ) → ((k x : ℕ) → slice_get xs k ≡ Some x → f x ≡ g x) → map f xs ≡ map g xs
  map_same f g [] same = refl
  map_same f g (x ∷ xs) same =
      let first = same 0 x refl in
      let rest = map_same f g xs (λ k y at. same (suc k) y at) in
      cc

  pub maps_same : (f g : ℕ → X) (lists : List (List ℕ))
      → ((l k x : ℕ) → slice_get (get_or lists l []) k ≡ Some x → f x ≡ g x) → map (map f) lists ≡ map (map g) lists
  maps_same f g [] same = refl
  maps_same f g (list ∷ lists) same =
      let first = map_same f g list (λ k x at. same 0 k x at) in
      let rest = maps_same f g lists (λ l k x at. same (suc l) k x at) in
      cc

  pub drop_map : (f : ℕ → X) (list : List ℕ) → map f (drop 1 list) ≡ drop 1 (map f list)
  drop_map f [] = refl
  drop_map f (x ∷ xs) = refl
