-- Lists of nodes, seen as lists of what the nodes stand for.
use Rattle.std.proofs.Common.{◌≡◌, ℕ, zero, suc, Bool, not, eqb, List, [], ◌∷◌, ◌++◌, map, set, get_or, replicate, refl, sym, ap, ◌∙◌, inl, inr}
use Rattle.std.specs.Prelude.{Option, filter, option_map, slice_get}
use Rattle.std.specs.List.{list_any}
use Rattle.std.proofs.Math.ListN.{get_or-map}
use Rattle.std.proofs.lemmas.Bool.{cases_Bool}
use Rattle.std.proofs.lemmas.List.{map-append, map-set}
use Rattle.std.proofs.lemmas.Option.{slice_get-map}
use Rattle.links.specs.Linked.{holds, without}

module _ {X : Type 0} where
  -- what a list of a number is seen as
  pub seen_at : (f : ℕ → X) (lists : List (List ℕ)) (l : ℕ) → get_or (map (map f) lists) l [] ≡ map f (get_or lists l [])
  seen_at f lists l = get_or-map (map f) lists l []

  -- no list has a node at first
  pub seen_fresh : (f : ℕ → X) (n : ℕ) → map (map f) (replicate n []) ≡ replicate n []
  seen_fresh f zero = refl
  seen_fresh f (suc n) = ap (λ (rest : List (List X)). [] ∷ rest) (seen_fresh f n)

  -- a node that comes to a list, seen
  pub seen_pushed : (f : ℕ → X) (n : ℕ) (x : X) → f n ≡ x → (lists : List (List ℕ)) (l : ℕ)
      → map (map f) (set lists l (get_or lists l [] ++ n ∷ []))
      ≡ set (map (map f) lists) l (get_or (map (map f) lists) l [] ++ x ∷ [])
  seen_pushed f n x is lists l =
      let last : map f (get_or lists l [] ++ n ∷ []) ≡ get_or (map (map f) lists) l [] ++ x ∷ [] =
      map-append f (get_or lists l []) (n ∷ []) ∙ rw (seen_at f lists l, is) refl in
      map-set (map f) lists l (get_or lists l [] ++ n ∷ []) ∙ ap (set (map (map f) lists) l) last

  -- the first of a list, seen
  pub seen_first : (f : ℕ → X) (lists : List (List ℕ)) (l : ℕ) (r : Option ℕ) → r ≡ slice_get (get_or lists l []) 0
      → option_map f r ≡ slice_get (get_or (map (map f) lists) l []) 0
  seen_first f lists l r is =
      ap (option_map f) is ∙ sym (slice_get-map f (get_or lists l []) 0) ∙ ap (λ (list : List X). slice_get list 0) (sym (seen_at f lists l))

  -- a test that tells one node's meaning from the others'
  module _ (f : ℕ → X) (same : X → Bool) (n : ℕ) (tells : (m : ℕ) → same (f m) ≡ eqb m n) where
    pub seen_holds : (list : List ℕ) → list_any same (map f list) ≡ holds n list
    seen_holds [] = refl
    seen_holds (m ∷ list) = rw (tells m, seen_holds list) refl

    pub seen_any : (lists : List (List ℕ)) → list_any (list_any same) (map (map f) lists) ≡ list_any (holds n) lists
    seen_any [] = refl
    seen_any (list ∷ lists) = rw (seen_holds list, seen_any lists) refl

    -- the node gone from a list, seen
    seen_without : (list : List ℕ) → map f (without n list) ≡ filter (λ x. not (same x)) (map f list)
    seen_without [] = refl
    seen_without (m ∷ list) =
        elim (cases_Bool (eqb m n)) [
          | inl here ↦ rw (tells m, here) (seen_without list)
          | inr there ↦ rw (tells m, there) (ap (λ (rest : List X). f m ∷ rest) (seen_without list))
        ]

    -- and from each list
    pub seen_unlinked : (lists : List (List ℕ)) → map (map f) (map (without n) lists) ≡ map (filter (λ x. not (same x))) (map (map f) lists)
    seen_unlinked [] = refl
    seen_unlinked (list ∷ lists) = rw (seen_without list, seen_unlinked lists) refl

    -- and from the list of a number
    pub seen_removed : (lists : List (List ℕ)) (l : ℕ) → map (map f) (set lists l (without n (get_or lists l [])))
        ≡ set (map (map f) lists) l (filter (λ x. not (same x)) (get_or (map (map f) lists) l []))
    seen_removed lists l =
        map-set (map f) lists l (without n (get_or lists l []))
        ∙ ap (set (map (map f) lists) l) (seen_without (get_or lists l [])
        ∙ ap (filter (λ x. not (same x))) (sym (seen_at f lists l)))
