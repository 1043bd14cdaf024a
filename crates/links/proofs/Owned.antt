-- The numbers that are kept of the lists on which nodes stand.
use Rattle.std.proofs.Common.{◌≡◌, ◌≢◌, ℕ, ◌<◌, true, not, eqb, List, [], ◌∷◌, ◌++◌, length, get_or, set, replicate, refl, sym, ap, ◌∙◌, arith, inl, inr, get_or-set_same, get_or-set_other, length-set}
use Rattle.std.specs.Prelude.{Some, All, slice_get}
use Rattle.std.specs.List.{list_any}
use Rattle.std.proofs.lemmas.Bool.{cases_eq, cases_lt, eqb-true, eq-eqb}
use Rattle.std.proofs.lemmas.List.{length-replicate, get_or-replicate, get_or_append_left, get_or_push, length_push, set-get_or}
use Rattle.std.proofs.lemmas.List.Elements.{All-nil, All-get_or, All-from_get_or, All-push, All-filter}
use Rattle.std.proofs.lemmas.List.Folds.{Any-from_list_any, list_any_at}
use Rattle.std.proofs.lemmas.Option.{slice_get_within, get_or_from_slice_get}
use Rattle.links.specs.Linked.{Linked, list_at, holds, without, with_list, pushed_back, empty_lists}
use Rattle.links.specs.Owned.{AreOwned}
use Rattle.links.proofs.Marks.{held_at, place_of, read_some}
use Rattle.links.proofs.Without.{without_absent}

-- the number that is kept of a node is the list's
abbrev pub Own : List ℕ → ℕ → ℕ → Type 0
Own owners list node = get_or owners node 0 ≡ list

-- where a node stands
pub record StandsIn (links : Linked) (x list : ℕ) : Type 0 where
  pub listed : list < length links.lists
  pub place : ℕ
  pub at : slice_get (list_at links list) place ≡ Some x

-- a node that isn't the one that is pushed is on no list where it was on none
pub unheld_pushed : (lists : List (List ℕ)) (l n x : ℕ) → l < length lists → x ≢ n
    → (list_any (holds x) lists ≡ true → ⊥) → list_any (holds x) (set lists l (get_or lists l [] ++ n ∷ [])) ≡ true → ⊥
unheld_pushed lists l n x listed other unheld held =
    let new = set lists l (get_or lists l [] ++ n ∷ []) in
    let place = place_of new x held in
    elim (cases_eq place.0 l) as (λ _. ⊥) [
      | inl here ↦
          let at : slice_get (get_or lists l [] ++ n ∷ []) place.1 ≡ Some x =
          rw (here, get_or-set_same lists l (get_or lists l [] ++ n ∷ []) [] listed) at place.3 in
          let inside = slice_get_within (get_or lists l [] ++ n ∷ []) place.1 x at in
          let read = get_or_from_slice_get (get_or lists l [] ++ n ∷ []) place.1 x x at in
          elim (cases_lt place.1 (length (get_or lists l []))) as (λ _. ⊥) [
            | inl low ↦
                unheld (held_at lists l place.1 x (read_some (get_or lists l []) place.1 x x low
                (sym (get_or_append_left (get_or lists l []) (n ∷ []) x place.1 low) ∙ read)))
            | inr high ↦ other (sym read ∙ get_or_push (get_or lists l []) n x place.1 (omega (arith, length_push (get_or lists l []) n)))
          ]
      | inr there ↦
          let at : slice_get (get_or lists place.0 []) place.1 ≡ Some x =
          rw (get_or-set_other lists l place.0 (get_or lists l [] ++ n ∷ []) [] there) at place.3 in
          unheld (held_at lists place.0 place.1 x at)
    ]

-- no node stands on a list at first
pub owned_fresh : (nodes lists : ℕ) → AreOwned (empty_lists nodes lists) (replicate nodes 0)
owned_fresh nodes lists = record {
  sized = length-replicate {A = ℕ} nodes 0;
  own = λ l listed.
      let inside : l < lists = rw (length-replicate {A = List ℕ} lists []) at listed in
      rw (get_or-replicate {A = List ℕ} lists l [] [] inside) (All-nil (Own (replicate nodes 0) l));
}

module _ (links : Linked) (owners : List ℕ) (owned : AreOwned links owners) where
  -- another list in the place of one, with numbers to match
  pub owned_with : (l : ℕ) → l < length links.lists → (list owners' : List ℕ) → length owners' ≡ length owners
      → All (Own owners' l) list → ((m : ℕ) → m < length links.lists → m ≢ l → All (Own owners' m) (list_at links m))
      → AreOwned (with_list links l list) owners'
  owned_with l listed list owners' same own others = record {
    sized = same ∙ owned.sized;
    own = λ m inside. elim (cases_eq m l) [
      | inl here ↦ rw (here, get_or-set_same links.lists l list [] listed) own
      | inr there ↦ rw get_or-set_other (others m (rw length-set at inside) there)
    ];
  }

  -- the number of a node on no list may change
  own_set : (x l m : ℕ) → (list_any (holds x) links.lists ≡ true → ⊥) → m < length links.lists → All (Own (set owners x l) m) (list_at links m)
  own_set x l m unheld listed =
      All-from_get_or (Own (set owners x l) m) (list_at links m) x (λ k inside.
      let other : get_or (list_at links m) k x ≢ x = λ same. unheld (held_at links.lists m k x (read_some (list_at links m) k x x inside same)) in
      get_or-set_other owners x (get_or (list_at links m) k x) l 0 other ∙ All-get_or (Own owners m) (list_at links m) k x inside (owned.own m listed))

  -- a node comes to a list, and its number with it
  pub owned_pushed : (l x : ℕ) → l < length links.lists → x < links.nodes → (list_any (holds x) links.lists ≡ true → ⊥)
      → AreOwned (pushed_back links l x) (set owners x l)
  owned_pushed l x listed node unheld =
      let place : x < length owners = omega (arith, owned.sized) in
      owned_with l listed (list_at links l ++ x ∷ []) (set owners x l) (length-set owners x l)
      (All-push (Own (set owners x l) l) (list_at links l) x (own_set x l l unheld listed)
      (get_or-set_same owners x l 0 place)) (λ m inside _. own_set x l m unheld inside)

  -- a node leaves a list
  pub owned_without : (l x : ℕ) → l < length links.lists → AreOwned (with_list links l (without x (list_at links l))) owners
  owned_without l x listed =
      owned_with l listed (without x (list_at links l)) owners refl
      (All-filter (λ other. not (eqb other x)) (Own owners l) (list_at links l) (owned.own l listed))
      (λ m inside _. owned.own m inside)

  -- a node that is on a list is on that of its number
  pub stands_own : (x : ℕ) → list_any (holds x) links.lists ≡ true → StandsIn links x (get_or owners x 0)
  stands_own x held =
      let at = place_of links.lists x held in
      let inside = slice_get_within (list_at links at.0) at.1 x at.3 in
      let own : get_or owners x 0 ≡ at.0 = rw (get_or_from_slice_get (list_at links at.0) at.1 x x at.3) at
      (All-get_or (Own owners at.0) (list_at links at.0) at.1 x inside (owned.own at.0 at.2)) in
      rw own (record { listed = at.2; place = at.1; at = at.3 })

  -- a list that holds a node is that of its number
  pub held_own : (x l : ℕ) → l < length links.lists → holds x (list_at links l) ≡ true → get_or owners x 0 ≡ l
  held_own x l listed held =
      let some = Any-from_list_any (λ y. eqb y x) (list_at links l) held in
      let is : some.1 ≡ x = eqb-true some.1 x some.4 in
      let own : get_or owners some.1 0 ≡ l = rw some.3 at (All-get_or (Own owners l) (list_at links l) some.0 some.1 some.2 (owned.own l listed)) in
      rw is at own

  -- nothing changes where a node leaves a list on which it doesn't stand
  pub without_other : (l x : ℕ) → l < length links.lists
      → (list_any (holds x) links.lists ≡ true → get_or owners x 0 ≢ l)
      → links ≡ with_list links l (without x (list_at links l))
  without_other l x listed other =
      let absent = without_absent x (list_at links l) (λ k inside same.
      let held = held_at links.lists l k x (read_some (list_at links l) k x x inside same) in
      other held (held_own x l listed (list_any_at (λ y. eqb y x) (list_at links l) k x inside (eq-eqb (get_or (list_at links l) k x) x same)))) in
      ap (λ (lists : List (List ℕ)). record links { lists = lists }) (sym (set-get_or links.lists l []) ∙ ap (set links.lists l) (sym absent))
