-- A walk along the neighbours gives the lists that they stand for.
use Rattle.std.proofs.Common.{◌≡◌, ◌≢◌, ℕ, zero, suc, ◌+◌, ◌-◌, ◌<◌, ◌≤◌, false, eqb, List, [], ◌∷◌, length, get_or, drop, refl, sym, ap, ◌∙◌, arith, inl, inr, eq-eqb, drop-cons}
use Rattle.std.specs.List.{IsDistinct}
use Rattle.std.proofs.lemmas.Bool.{cases_eq, ne_eqb, eqb-true}
use Rattle.std.proofs.lemmas.List.{get_or_past, get_or_read, get_or_default, drop_all}
use Rattle.std.proofs.lemmas.List.Elements.{All-from_get_or, recursion_from_All}
use Rattle.std.proofs.lemmas.List.Folds.{Any-from_list_any}
use Rattle.std.proofs.lemmas.Map.Steps.{length-le_from_distinct_below}
use Rattle.links.specs.Rings.{here, before, AreLinked, walk, lists_from, lists_of}
use Rattle.links.proofs.Apart.{here_apart}

-- a list whose elements differ pairwise holds no number twice
distinct_from : (xs : List ℕ) → ((i j : ℕ) → i < j → j < length xs → get_or xs i 0 ≢ get_or xs j 0) → IsDistinct eqb xs
unfolding IsDistinct
distinct_from [] apart = tt
distinct_from (x ∷ xs) apart = (
  recursion_from_All (λ y. eqb x y ≡ false) xs
      (All-from_get_or (λ y. eqb x y ≡ false) xs 0
      (λ i inside. ne_eqb x (get_or xs i 0) (apart 0 (suc i) (omega arith) (omega arith)))),
  distinct_from xs (λ i j low inside. apart (suc i) (suc j) (omega arith) (omega arith)),
)

module _ (n : ℕ) (next previous : List ℕ) (lists : List (List ℕ)) (are : AreLinked n next previous lists) where
  -- a list is no longer than there are nodes
  pub bounded : (l : ℕ) → l < length lists → length (get_or lists l []) ≤ n
  bounded l listed =
      length-le_from_distinct_below (get_or lists l []) n
      (distinct_from (get_or lists l []) (λ i j low inside same.
      let short : i < length (get_or lists l []) = omega arith in
      let twice = here_apart n next previous lists are i j l l listed listed (omega arith) (omega arith)
      (get_or_default (get_or lists l []) i (n + l) 0 short ∙ same
      ∙ get_or_default (get_or lists l []) j 0 (n + l) inside) in
      absurd (omega (arith, twice.1))))
      (λ q any.
      let some = Any-from_list_any (eqb q) (get_or lists l []) any in
      let read : some.1 ≡ here (n + l) (get_or lists l []) some.0 = get_or_read (get_or lists l []) some.0 some.1 some.2 (sym some.3) (n + l) in
      let is : q ≡ some.1 = eqb-true q some.1 some.4 in
      let below = (are.rings l listed).below some.0 some.2 in
      omega arith)

  -- a walk of enough steps gives what is left of the list
  walk_rest : (steps l k : ℕ) → l < length lists → k ≤ length (get_or lists l [])
      → length (get_or lists l []) < k + steps
      → walk steps next (n + l) (before (n + l) (get_or lists l []) k) ≡ drop k (get_or lists l [])
  walk_rest zero l k listed within enough = absurd (omega arith)
  walk_rest (suc steps) l k listed within enough =
      let led = (are.rings l listed).forward k within in
      elim (cases_eq k (length (get_or lists l []))) [
        | inl all ↦
            let at_end : here (n + l) (get_or lists l []) k ≡ n + l = get_or_past (get_or lists l []) k (n + l) (omega arith) in
            rw (led, at_end, eq-eqb (n + l) (n + l) refl, drop_all k (get_or lists l []) (omega arith)) refl
        | inr more ↦
            let inside : k < length (get_or lists l []) = omega arith in
            let below = (are.rings l listed).below k inside in
            rw (
              led,
              ne_eqb (here (n + l) (get_or lists l []) k) (n + l) (λ e. omega arith),
              drop-cons (get_or lists l []) k (n + l),
            )
            (ap (λ rest. here (n + l) (get_or lists l []) k ∷ rest)
            (walk_rest steps l (suc k) listed (omega arith) (omega arith)))
      ]

  lists_from_is : (k l end : ℕ) → k + l ≡ length lists → end ≡ n + l → lists_from k next end ≡ drop l lists
  lists_from_is zero l end all at = sym (drop_all l lists (omega arith))
  lists_from_is (suc k) l end all at =
      let listed : l < length lists = omega arith in
      let short = bounded l listed in
      let sized = are.next_sized in
      let one : walk (length next) next (n + l) (n + l) ≡ get_or lists l [] = walk_rest (length next) l 0 listed (omega arith) (omega arith) in
      rw (at, one, drop-cons lists l []) (ap (λ rest. get_or lists l [] ∷ rest) (lists_from_is k (suc l) (suc (n + l)) (omega arith) (omega arith)))

  -- the lists that the neighbours stand for are these
  pub lists_of_is : lists_of n next ≡ lists
  lists_of_is =
      let sized = are.next_sized in
      let count : length next - n ≡ length lists = omega arith in
      rw count (lists_from_is (length lists) 0 n (omega arith) (omega arith))
