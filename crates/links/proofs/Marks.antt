-- What tells whether a node is on a list, where, and what stands behind it.
use Rattle.std.proofs.Common.{◌≡◌, ◌≢◌, ℕ, suc, ◌+◌, ◌<◌, ◌≤◌, true, false, not, eqb, List, [], ◌∷◌, length, get_or, refl, sym, ap, ◌∙◌, arith, inl, inr, eq-eqb}
use Rattle.std.specs.Prelude.{Option, is_some, Some, None, slice_get}
use Rattle.std.specs.List.{list_any}
use Rattle.std.proofs.lemmas.Bool.{cases_lt, cases_Bool, eqb-true, ne_eqb}
use Rattle.std.proofs.lemmas.List.{get_or_past, get_or_read}
use Rattle.std.proofs.lemmas.List.Folds.{Any-from_list_any, list_any_at}
use Rattle.std.proofs.lemmas.Option.{slice_get-get_or, slice_get_within, get_or_from_slice_get, slice_get_past}
use Rattle.links.specs.Linked.{holds, AreApart}
use Rattle.links.specs.Rings.{here, AreLinked, IsFree}
use Rattle.links.proofs.Apart.{here_apart}

-- a list has no first element exactly where it is empty
pub none_first : {X : Type 0} (xs : List X) (r : Option X) → r ≡ slice_get xs 0 → (is_some r ≡ false → xs ≡ []) × (xs ≡ [] → is_some r ≡ false)
none_first [] r is = (λ none. refl, λ empty. rw is refl)
none_first (x ∷ xs) r is = (λ none. let no : true ≡ false = rw is at none in absurd (cc), λ empty. absurd (cc))

-- nothing stands behind an element exactly where it is the last
pub none_behind : (xs : List ℕ) (k x : ℕ) (r : Option ℕ) → slice_get xs k ≡ Some x → r ≡ slice_get xs (suc k)
    → (is_some r ≡ false → k + 1 ≡ length xs) × (k + 1 ≡ length xs → is_some r ≡ false)
none_behind xs k x r at is =
    let inside = slice_get_within xs k x at in
    elim (cases_lt (k + 1) (length xs)) [
      | inl more ↦ (
        λ none. let no : true ≡ false = rw (is, slice_get-get_or xs (suc k) 0 (omega arith)) at none in absurd (cc),
        λ last. absurd (omega arith),
      )
      | inr past ↦ (λ none. omega arith, λ last. rw (is, slice_get_past xs (suc k) (omega arith)) refl)
    ]

-- where an element is read there is one
pub read_some : (xs : List ℕ) (k x d : ℕ) → k < length xs → get_or xs k d ≡ x → slice_get xs k ≡ Some x
read_some xs k x d inside is = slice_get-get_or xs k d inside ∙ ap Some is

-- a list that has an element at a place is one of the lists
pub listed_from : (lists : List (List ℕ)) (l k x : ℕ) → slice_get (get_or lists l []) k ≡ Some x → l < length lists
listed_from lists l k x at =
    elim (cases_lt l (length lists)) [
      | inl inside ↦ inside
      | inr past ↦
          let none : get_or lists l [] ≡ [] = get_or_past lists l [] past in
          let short = slice_get_within (get_or lists l []) k x at in
          let absent : k < 0 = rw none at short in absurd (omega arith)
    ]

-- a node that stands somewhere is held
pub held_at : (lists : List (List ℕ)) (l k x : ℕ) → slice_get (get_or lists l []) k ≡ Some x → list_any (holds x) lists ≡ true
held_at lists l k x at =
    let inside = slice_get_within (get_or lists l []) k x at in
    list_any_at (holds x) lists l [] (listed_from lists l k x at)
    (list_any_at (λ y. eqb y x) (get_or lists l []) k x inside
    (eq-eqb (get_or (get_or lists l []) k x) x (get_or_from_slice_get (get_or lists l []) k x x at)))

-- a node that is held stands somewhere
pub place_of : (lists : List (List ℕ)) (x : ℕ) → list_any (holds x) lists ≡ true
    → (l : ℕ) × (k : ℕ) × (l < length lists) × (slice_get (get_or lists l []) k ≡ Some x)
place_of lists x held =
    let list = Any-from_list_any (holds x) lists held in
    let at : list.1 ≡ get_or lists list.0 [] = get_or_read lists list.0 list.1 list.2 (sym list.3) [] in
    let element = Any-from_list_any (λ y. eqb y x) list.1 list.4 in
    let is : element.1 ≡ x = eqb-true element.1 x element.4 in (
      list.0,
      element.0,
      list.2,
      rw (← at) (read_some list.1 element.0 x element.1 element.2 (element.3 ∙ is)),
    )

pub free_from_unheld : (lists : List (List ℕ)) (x : ℕ) → (list_any (holds x) lists ≡ true → ⊥) → IsFree lists x
free_from_unheld lists x unheld l k at = unheld (held_at lists l k x at)

pub unheld_from_free : (lists : List (List ℕ)) (x : ℕ) → IsFree lists x → list_any (holds x) lists ≡ true → ⊥
unheld_from_free lists x free held = let at = place_of lists x held in free at.0 at.1 at.3

module _ (n : ℕ) (next previous : List ℕ) (lists : List (List ℕ)) (are : AreLinked n next previous lists) where
  -- a node that stands at a place leads to what stands behind it
  pub leads_on : (l k x : ℕ) → slice_get (get_or lists l []) k ≡ Some x → get_or next x 0 ≡ here (n + l) (get_or lists l []) (suc k)
  leads_on l k x at =
      let listed = listed_from lists l k x at in
      let inside = slice_get_within (get_or lists l []) k x at in
      let stands : here (n + l) (get_or lists l []) k ≡ x = get_or_from_slice_get (get_or lists l []) k x (n + l) at in
      rw (← stands) ((are.rings l listed).forward (suc k) (omega arith))

  -- a node that is on a list is one of the nodes
  pub held_below : (x : ℕ) → list_any (holds x) lists ≡ true → x < n
  held_below x held =
      let place = place_of lists x held in
      let inside = slice_get_within (get_or lists place.0 []) place.1 x place.3 in
      rw (get_or_from_slice_get (get_or lists place.0 []) place.1 x (n + place.0) place.3) at ((are.rings place.0 place.2).below place.1 inside)

  -- and doesn't lead to itself
  pub leads_away : (x : ℕ) → list_any (holds x) lists ≡ true → get_or next x 0 ≢ x
  leads_away x held home =
      let place = place_of lists x held in
      let inside = slice_get_within (get_or lists place.0 []) place.1 x place.3 in
      let stands : here (n + place.0) (get_or lists place.0 []) place.1 ≡ x = get_or_from_slice_get (get_or lists place.0 []) place.1 x (n + place.0) place.3 in
      let twice = here_apart n next previous lists are (suc place.1) place.1 place.0 place.0 place.2 place.2
      (omega arith) (omega arith) (sym (leads_on place.0 place.1 x place.3) ∙ home ∙ sym stands) in
      omega (arith, twice.1)

  -- and a node that doesn't lead to itself is on a list
  pub held_away : (x : ℕ) → x < n → get_or next x 0 ≢ x → list_any (holds x) lists ≡ true
  held_away x node away =
      elim (cases_Bool (list_any (holds x) lists)) [
        | inl held ↦ held
        | inr unheld ↦ absurd (away (are.free x node (free_from_unheld lists x (λ held. let same : false ≡ true = sym unheld ∙ held in cc))))
      ]

  -- so the test whether it leads away tells whether it is on a list
  pub mark_tells : (x r : ℕ) → x < n → r ≡ get_or next x 0
      → (not (eqb r x) ≡ true → list_any (holds x) lists ≡ true)
      × (list_any (holds x) lists ≡ true → not (eqb r x) ≡ true)
  mark_tells x r node led = (
    λ away. held_away x node (λ home. let same : eqb r x ≡ true = eq-eqb r x (led ∙ home) in let no : false ≡ true = rw same at away in cc),
    λ held. rw (ne_eqb r x (λ home. leads_away x held (sym led ∙ home))) refl,
  )

  -- an entry that is a node is what stands at its place, and where an end stands nothing does
  pub here_some : (l k x : ℕ) → l < length lists → k ≤ length (get_or lists l [])
      → x ≡ here (n + l) (get_or lists l []) k → x < n → Some x ≡ slice_get (get_or lists l []) k
  here_some l k x listed within is node =
      elim (cases_lt k (length (get_or lists l []))) [
        | inl inside ↦ sym (read_some (get_or lists l []) k x (n + l) inside (sym is))
        | inr past ↦ absurd (omega (arith, get_or_past (get_or lists l []) k (n + l) past))
      ]

  pub here_none : (l k x : ℕ) → l < length lists → x ≡ here (n + l) (get_or lists l []) k → n ≤ x → None ≡ slice_get (get_or lists l []) k
  here_none l k x listed is end =
      elim (cases_lt k (length (get_or lists l []))) [
        | inl inside ↦ absurd (omega (arith, (are.rings l listed).below k inside))
        | inr past ↦ sym (slice_get_past (get_or lists l []) k past)
      ]

  -- each node stands at one place
  pub are_apart : AreApart (record { nodes = n; lists = lists })
  are_apart = record {
    below = λ l k x at. let inside = slice_get_within (get_or lists l []) k x at in
        let below = (are.rings l (listed_from lists l k x at)).below k inside in
        rw (get_or_from_slice_get (get_or lists l []) k x (n + l) at) at below;
    once =
        λ l m j k x one other. here_apart n next previous lists are j k l m (listed_from lists l j x one)
        (listed_from lists m k x other) (omega (arith, slice_get_within (get_or lists l []) j x one))
        (omega (arith, slice_get_within (get_or lists m []) k x other))
        (get_or_from_slice_get (get_or lists l []) j x (n + l) one
        ∙ sym (get_or_from_slice_get (get_or lists m []) k x (n + m) other));
  }
