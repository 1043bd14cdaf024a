-- What each call leaves.
use Rattle.std.proofs.Common.{◌≡◌, ◌≢◌, ℕ, suc, ◌+◌, ◌<◌, true, List, [], ◌∷◌, ◌++◌, length, get_or, set, map, drop, refl, sym, ◌∙◌, arith, inl, inr, get_or-set_same, get_or-set_other, length-set}
use Rattle.std.specs.Prelude.{Some, slice_get}
use Rattle.std.specs.List.{list_any}
use Rattle.std.proofs.lemmas.Bool.{cases_eq}
use Rattle.std.proofs.lemmas.List.{get_or-map, length-map, ext_get_or, get_or_past, get_or_default}
use Rattle.std.proofs.lemmas.Option.{slice_get_within, get_or_from_slice_get}
use Rattle.links.specs.Linked.{holds, without}
use Rattle.links.specs.Rings.{here, before, AreLinked, IsFree, lists_of}
use Rattle.links.proofs.Apart.{here_below, before_below, before_apart, here_apart, here_free, before_free}
use Rattle.links.proofs.Edits.{IsWith, IsRewritten, with_front, with_back, rewritten}
use Rattle.links.proofs.Inserted.{inserted}
use Rattle.links.proofs.Removed.{removed, gone_from}
use Rattle.links.proofs.Marks.{place_of, leads_on, here_some}
use Rattle.links.proofs.Walks.{lists_of_is}
use Rattle.links.proofs.Without.{without_absent, with_without}

-- the lists that stand for neighbours that lead through lists are these
abbrev pub Leads : ℕ → List ℕ → List ℕ → List (List ℕ) → Type 0
Leads n next previous lists = AreLinked n next previous (lists_of n next) × (lists_of n next ≡ lists)

pub leads : (n : ℕ) (next previous : List ℕ) (lists : List (List ℕ)) → AreLinked n next previous lists → Leads n next previous lists
leads n next previous lists are = let is = lists_of_is n next previous lists are in (rw is are, is)

module _ (n : ℕ) (next previous : List ℕ) (lists : List (List ℕ)) (are : AreLinked n next previous lists) where
  -- a node comes between what stands before a place and what stands at it
  pub put_at : (l j x : ℕ) (ys : List ℕ) → l < length lists → x < n → IsFree lists x → IsWith (get_or lists l []) ys x j
      → (next' previous' : List ℕ)
      → next' ≡ set (set next (before (n + l) (get_or lists l []) j) x) x (here (n + l) (get_or lists l []) j)
      → previous' ≡ set (set previous x (before (n + l) (get_or lists l []) j)) (here (n + l) (get_or lists l []) j) x
      → Leads n next' previous' (set lists l ys)
  put_at l j x ys listed node free more next' previous' forth back =
      let left = before_below n next previous lists are l j listed more.inside in
      let right = here_below n next previous lists are l j listed more.inside in
      let sized = are.next_sized in
      let sized' = are.previous_sized in
      leads n next' previous' (set lists l ys)
      (inserted n next previous lists are l j x ys listed node free more next' previous'
      (rw forth (rewritten next (before (n + l) (get_or lists l []) j) x x (here (n + l) (get_or lists l []) j)
      (omega arith) (omega arith) (before_free n next previous lists are l j x node free)))
      (rw back (rewritten previous x (before (n + l) (get_or lists l []) j) (here (n + l) (get_or lists l []) j) x
      (omega arith) (omega arith) (λ same. here_free n next previous lists are l j x node free (sym same)))))

  -- the node at a place leaves
  pub taken_at : (l j x : ℕ) (ys : List ℕ) → l < length lists → IsWith ys (get_or lists l []) x j
      → (next' previous' : List ℕ)
      → next' ≡ set (set next (before (n + l) (get_or lists l []) j) (here (n + l) (get_or lists l []) (suc j))) x x
      → previous' ≡ set (set previous (here (n + l) (get_or lists l []) (suc j)) (before (n + l) (get_or lists l []) j))
      x x
      → Leads n next' previous' (set lists l ys) × IsFree (set lists l ys) x
  taken_at l j x ys listed more next' previous' forth back =
      let inside : j < length (get_or lists l []) = omega (arith, more.more, more.inside) in
      let stands : here (n + l) (get_or lists l []) j ≡ x = more.at (n + l) in
      let node : x < n = rw stands at ((are.rings l listed).below j inside) in
      let left = before_below n next previous lists are l j listed (omega arith) in
      let right = here_below n next previous lists are l (suc j) listed (omega arith) in
      let sized = are.next_sized in
      let sized' = are.previous_sized in
      let not_left : before (n + l) (get_or lists l []) j ≢ x = λ same. let twice = before_apart n next previous lists
      are j (suc j) l l listed listed (omega arith) (omega arith) (same ∙ sym stands) in
      omega (arith, twice.1) in
      let not_right : here (n + l) (get_or lists l [])
      (suc j) ≢ x = λ same. let twice = here_apart n next previous lists are (suc j) j l l listed listed (omega arith)
      (omega arith) (same ∙ sym stands) in
      omega (arith, twice.1) in
      let first : IsRewritten next next' (before (n + l) (get_or lists l []) j)
      (here (n + l) (get_or lists l []) (suc j)) x x =
      rw forth (rewritten next (before (n + l) (get_or lists l []) j) (here (n + l) (get_or lists l []) (suc j)) x x
      (omega arith) (omega arith) not_left) in
      let second : IsRewritten previous previous' (here (n + l) (get_or lists l []) (suc j))
      (before (n + l) (get_or lists l []) j) x x =
      rw back (rewritten previous (here (n + l) (get_or lists l []) (suc j)) (before (n + l) (get_or lists l []) j) x x
      (omega arith) (omega arith) not_right) in
      let done = removed n next previous lists are l j x ys listed more next' previous' first second in
      (leads n next' previous' (set lists l ys) done, gone_from n next previous lists are l j x ys listed more next' previous' first second)

  -- what stands before an end is the last of its list
  last_is : (l : ℕ) → l < length lists → get_or previous (n + l) 0 ≡ before (n + l) (get_or lists l []) (length (get_or lists l []))
  last_is l listed =
      let end : here (n + l) (get_or lists l []) (length (get_or lists l [])) ≡ n + l =
      get_or_past (get_or lists l []) (length (get_or lists l [])) (n + l) (omega arith) in
      rw end at ((are.rings l listed).backward (length (get_or lists l [])) (omega arith))

  pub last_below : (l : ℕ) → l < length lists → get_or previous (n + l) 0 < n + length lists
  last_below l listed =
      omega (arith, last_is l listed, before_below n next previous lists are l (length (get_or lists l [])) listed (omega arith))

  pub first_below : (l : ℕ) → l < length lists → get_or next (n + l) 0 < n + length lists
  first_below l listed =
      omega (arith, (are.rings l listed).forward 0 (omega arith), here_below n next previous lists are l 0 listed (omega arith))

  pub pushed_back_leads : (l x last : ℕ) → l < length lists → x < n → IsFree lists x → last ≡ get_or previous (n + l) 0
      → (next' previous' : List ℕ) → next' ≡ set (set next last x) x (n + l)
      → previous' ≡ set (set previous x last) (n + l) x
      → Leads n next' previous' (set lists l (get_or lists l [] ++ x ∷ []))
  pushed_back_leads l x last listed node free at next' previous' forth back =
      let end : here (n + l) (get_or lists l []) (length (get_or lists l [])) ≡ n + l =
      get_or_past (get_or lists l []) (length (get_or lists l [])) (n + l) (omega arith) in
      let is : last ≡ before (n + l) (get_or lists l []) (length (get_or lists l [])) = at ∙ last_is l listed in
      put_at l (length (get_or lists l [])) x (get_or lists l [] ++ x ∷ []) listed node free
      (with_back (get_or lists l []) x) next' previous' (rw (end, ← is) forth) (rw (end, ← is) back)

  pub pushed_front_leads : (l x first : ℕ) → l < length lists → x < n → IsFree lists x → first ≡ get_or next (n + l) 0
      → (next' previous' : List ℕ) → next' ≡ set (set next (n + l) x) x first
      → previous' ≡ set (set previous x (n + l)) first x → Leads n next' previous' (set lists l (x ∷ get_or lists l []))
  pushed_front_leads l x first listed node free at next' previous' forth back =
      let is : first ≡ here (n + l) (get_or lists l []) 0 = at ∙ (are.rings l listed).forward 0 (omega arith) in
      put_at l 0 x (x ∷ get_or lists l []) listed node free (with_front (get_or lists l []) x) next' previous' (rw (← is) forth) (rw (← is) back)

  -- the first of a list, where it is a node
  pub record IsFirst (l x after : ℕ) : Type 0 where
    pub first : Some x ≡ slice_get (get_or lists l []) 0
    pub below : x < n
    pub behind : after < n + length lists

  pub first_node : (l x after : ℕ) → l < length lists → x ≡ get_or next (n + l) 0 → x ≢ n + l → after ≡ get_or next x 0 → IsFirst l x after
  first_node l x after listed at not_end behind =
      let first : x ≡ here (n + l) (get_or lists l []) 0 = at ∙ (are.rings l listed).forward 0 (omega arith) in
      let some = filled (get_or lists l []) x (n + l) first not_end in
      let node : x < n = omega (arith, (are.rings l listed).below 0 some) in
      record {
        first = here_some n next previous lists are l 0 x listed (omega arith) first node;
        below = node;
        behind =
            omega (
              arith,
              behind ∙ rw (← first) at ((are.rings l listed).forward 1 (omega arith)),
              here_below n next previous lists are l 1 listed (omega arith),
            );
      }
    where
      filled : (xs : List ℕ) (x end : ℕ) → x ≡ here end xs 0 → x ≢ end → 0 < length xs
      filled [] x end is not_end = absurd (not_end is)
      filled (y ∷ ys) x end is not_end = omega arith

  -- it leaves
  pub popped_leads : (l x after : ℕ) → l < length lists → x ≡ get_or next (n + l) 0 → x ≢ n + l
      → after ≡ get_or next x 0 → (next' previous' : List ℕ) → next' ≡ set (set next (n + l) after) x x
      → previous' ≡ set (set previous after (n + l)) x x
      → Leads n next' previous' (set lists l (drop 1 (get_or lists l [])))
      × IsFree (set lists l (drop 1 (get_or lists l []))) x
  popped_leads l x after listed at not_end behind next' previous' forth back =
      let first : x ≡ here (n + l) (get_or lists l []) 0 = at ∙ (are.rings l listed).forward 0 (omega arith) in
      let some = filled (get_or lists l []) x (n + l) first not_end in
      let second : after ≡ here (n + l) (get_or lists l []) 1 = behind ∙ rw (← first) at ((are.rings l listed).forward 1 (omega (arith, some.more))) in
      taken_at l 0 x (drop 1 (get_or lists l [])) listed some next' previous' (rw (← second) forth) (rw (← second) back)
    where
      filled : (xs : List ℕ) (x end : ℕ) → x ≡ here end xs 0 → x ≢ end → IsWith (drop 1 xs) xs x 0
      filled [] x end is not_end = absurd (not_end is)
      filled (y ∷ ys) x end is not_end = rw is (with_front ys y)

  -- nothing is the first of a list that leads to its end at once
  pub empty_first : (l x : ℕ) → l < length lists → x ≡ get_or next (n + l) 0 → x ≡ n + l → get_or lists l [] ≡ []
  empty_first l x listed at end =
      let first = (are.rings l listed).forward 0 (omega arith) in
      none (get_or lists l []) (λ k inside. omega (arith, (are.rings l listed).below k inside)) (omega arith)
    where
      none : (xs : List ℕ) → ((k : ℕ) → k < length xs → here (n + l) xs k < n) → here (n + l) xs 0 ≡ n + l → xs ≡ []
      none [] below at = refl
      none (y ∷ ys) below at = absurd (omega (arith, below 0 (omega arith)))

  -- the other lists lack a node that stands on one
  elsewhere_absent : (l j x m k : ℕ) → l < length lists → slice_get (get_or lists l []) j ≡ Some x → m < length lists
      → k < length (get_or lists m []) → (m ≡ l → k ≢ j) → get_or (get_or lists m []) k x ≢ x
  elsewhere_absent l j x m k listed at within inside other is =
      let twice = here_apart n next previous lists are k j m l within listed (omega arith)
      (omega (arith, slice_get_within (get_or lists l []) j x at))
      (get_or_default (get_or lists m []) k (n + m) x inside ∙ is
      ∙ sym (get_or_from_slice_get (get_or lists l []) j x (n + l) at)) in
      other twice.0 twice.1

  -- so a node is gone from all lists where it is gone from its own
  pub without_is : (l j x : ℕ) → l < length lists → slice_get (get_or lists l []) j ≡ Some x
      → map (without x) lists ≡ set lists l (without x (get_or lists l []))
  without_is l j x listed at =
      ext_get_or [] (map (without x) lists) (set lists l (without x (get_or lists l []))) (rw (length-map, length-set) refl) (λ m inside.
      let within : m < length lists = omega (arith, length-map lists (without x)) in
      get_or-map (without x) lists m [] [] within ∙ elim (cases_eq m l) [
        | inl same ↦ rw (same, get_or-set_same) refl
        | inr other ↦
            rw get_or-set_other (without_absent x (get_or lists m [])
            (λ k short. elsewhere_absent l j x m k listed at within short (λ same. absurd (other same))))
      ])

  -- a node's neighbours are entries
  pub beside_below : (x : ℕ) → list_any (holds x) lists ≡ true → (get_or previous x 0 < n + length lists) × (get_or next x 0 < n + length lists)
  beside_below x held =
      let place = place_of lists x held in
      let inside = slice_get_within (get_or lists place.0 []) place.1 x place.3 in
      let stands : here (n + place.0) (get_or lists place.0 []) place.1 ≡ x =
      get_or_from_slice_get (get_or lists place.0 []) place.1 x (n + place.0) place.3 in (
        omega (
          arith,
          rw stands at ((are.rings place.0 place.2).backward place.1 (omega arith)),
          before_below n next previous lists are place.0 place.1 place.2 (omega arith),
        ),
        omega (
          arith,
          leads_on n next previous lists are place.0 place.1 x place.3,
          here_below n next previous lists are place.0 (suc place.1) place.2 (omega arith),
        ),
      )

  -- a node leaves its list
  pub unlinked_leads : (x left right : ℕ) → list_any (holds x) lists ≡ true → left ≡ get_or previous x 0
      → right ≡ get_or next x 0 → (next' previous' : List ℕ) → next' ≡ set (set next left right) x x
      → previous' ≡ set (set previous right left) x x
      → Leads n next' previous' (map (without x) lists) × IsFree (map (without x) lists) x
  unlinked_leads x left right held back_at forth_at next' previous' forth back =
      let place = place_of lists x held in
      let inside = slice_get_within (get_or lists place.0 []) place.1 x place.3 in
      let stands : here (n + place.0) (get_or lists place.0 []) place.1 ≡ x = get_or_from_slice_get (get_or lists place.0 []) place.1 x (n + place.0) place.3 in
      let first : left ≡ before (n + place.0) (get_or lists place.0 []) place.1 =
      back_at ∙ rw stands at ((are.rings place.0 place.2).backward place.1 (omega arith)) in
      let second : right ≡ here (n + place.0) (get_or lists place.0 []) (suc place.1) =
      forth_at ∙ leads_on n next previous lists are place.0 place.1 x place.3 in
      let more = with_without x (get_or lists place.0 []) place.1 inside
      (get_or_from_slice_get (get_or lists place.0 []) place.1 x x place.3)
      (λ k short other. elsewhere_absent place.0 place.1 x place.0 k place.2 place.3 place.2 short (λ _. other)) in
      rw (without_is place.0 place.1 x place.2 place.3)
      (taken_at place.0 place.1 x (without x (get_or lists place.0 [])) place.2 more next' previous'
      (rw (← first, ← second) forth) (rw (← first, ← second) back))
