-- A node leaves the place of the list where it stands.
use Rattle.std.proofs.Common.{◌≡◌, ◌≢◌, ℕ, zero, suc, ◌+◌, ◌<◌, ◌≤◌, List, [], length, get_or, set, refl, sym, ap, ◌∙◌, arith, inl, inr, get_or-set_same, get_or-set_other, length-set}
use Rattle.std.specs.Prelude.{Some, slice_get}
use Rattle.std.proofs.lemmas.Bool.{cases_eq, cases_lt, cases_order}
use Rattle.std.proofs.lemmas.Option.{slice_get-get_or, slice_get_within, get_or_from_slice_get}
use Rattle.std.proofs.lemmas.List.{get_or_past}
use Rattle.links.specs.Rings.{here, before, IsRing, AreLinked, IsFree}
use Rattle.links.proofs.Edits.{IsWith, IsRewritten}
use Rattle.links.proofs.Apart.{before_apart, here_apart, before_free}

module _ (n : ℕ) (next previous : List ℕ) (lists : List (List ℕ)) (are : AreLinked n next previous lists) (l j x : ℕ)
    (ys : List ℕ) (listed : l < length lists) (more : IsWith ys (get_or lists l []) x j) (next' previous' : List ℕ)
    (forth : IsRewritten next next' (before (n + l) (get_or lists l []) j) (here (n + l) (get_or lists l []) (suc j)) x x)
    (back : IsRewritten previous previous' (here (n + l) (get_or lists l []) (suc j))
    (before (n + l) (get_or lists l []) j) x x) where
  -- the node stands at the place
  stands : here (n + l) (get_or lists l []) j ≡ x
  stands = more.at (n + l)

  node : x < n
  node = rw stands at ((are.rings l listed).below j (omega (arith, more.more, more.inside)))

  -- what stands before a place up to the node's stays
  before_low : (k : ℕ) → k ≤ j → before (n + l) ys k ≡ before (n + l) (get_or lists l []) k
  before_low zero low = refl
  before_low (suc k) low = sym (more.below k (n + l) (omega arith))

  -- and what stood before a later place stands before the one before it
  before_high : (k : ℕ) → j < k → before (n + l) ys k ≡ before (n + l) (get_or lists l []) (suc k)
  before_high zero high = absurd (omega arith)
  before_high (suc k) high = sym (more.above k (n + l) (omega arith))

  next_stays : (m k : ℕ) → m < length lists → k ≤ length (get_or lists m []) → (l ≡ m → k ≢ j) → (l ≡ m → k ≢ suc j)
      → get_or next' (before (n + m) (get_or lists m []) k) 0 ≡ here (n + m) (get_or lists m []) k
  next_stays m k inside within not_left not_node =
      forth.others (before (n + m) (get_or lists m []) k)
      (λ same. let is = before_apart n next previous lists are k j m l inside listed within
      (omega (arith, more.more, more.inside)) same in not_left (sym is.0) is.1)
      (λ same. let is = before_apart n next previous lists are k (suc j) m l inside listed within
      (omega (arith, more.more, more.inside)) (same ∙ sym stands) in not_node (sym is.0) is.1)
      ∙ (are.rings m inside).forward k within

  previous_stays : (m k : ℕ) → m < length lists → k ≤ length (get_or lists m []) → (l ≡ m → k ≢ j) → (l ≡ m → k ≢ suc j)
      → get_or previous' (here (n + m) (get_or lists m []) k) 0 ≡ before (n + m) (get_or lists m []) k
  previous_stays m k inside within not_node not_right =
      back.others (here (n + m) (get_or lists m []) k)
      (λ same. let is = here_apart n next previous lists are k (suc j) m l inside listed within
      (omega (arith, more.more, more.inside)) same in not_right (sym is.0) is.1)
      (λ same. let is = here_apart n next previous lists are k j m l inside listed within
      (omega (arith, more.more, more.inside)) (same ∙ sym stands) in not_node (sym is.0) is.1)
      ∙ (are.rings m inside).backward k within

  forward_own : (k : ℕ) → k ≤ length ys → get_or next' (before (n + l) ys k) 0 ≡ here (n + l) ys k
  forward_own k within =
      elim (cases_order k j) [
        | inl same ↦ rw (same, before_low j (omega arith), ← more.above j (n + l) (omega arith)) forth.first
        | inr apart ↦ elim apart [
          | inl low ↦
              rw (before_low k (omega arith), ← more.below k (n + l) low)
              (next_stays l k listed (omega (arith, more.more)) (λ _ e. omega arith) (λ _ e. omega arith))
          | inr high ↦
              rw (before_high k high, ← more.above k (n + l) (omega arith))
              (next_stays l (suc k) listed (omega (arith, more.more)) (λ _ e. omega arith) (λ _ e. omega arith))
        ]
      ]

  backward_own : (k : ℕ) → k ≤ length ys → get_or previous' (here (n + l) ys k) 0 ≡ before (n + l) ys k
  backward_own k within =
      elim (cases_order k j) [
        | inl same ↦ rw (same, before_low j (omega arith), ← more.above j (n + l) (omega arith)) back.first
        | inr apart ↦ elim apart [
          | inl low ↦
              rw (before_low k (omega arith), ← more.below k (n + l) low)
              (previous_stays l k listed (omega (arith, more.more)) (λ _ e. omega arith) (λ _ e. omega arith))
          | inr high ↦
              rw (before_high k high, ← more.above k (n + l) (omega arith))
              (previous_stays l (suc k) listed (omega (arith, more.more)) (λ _ e. omega arith) (λ _ e. omega arith))
        ]
      ]

  below_own : (k : ℕ) → k < length ys → here (n + l) ys k < n
  below_own k inside =
      elim (cases_lt k j) [
        | inl low ↦ rw (← more.below k (n + l) low) ((are.rings l listed).below k (omega (arith, more.more)))
        | inr high ↦ rw (← more.above k (n + l) high) ((are.rings l listed).below (suc k) (omega (arith, more.more)))
      ]

  ring_own : IsRing n next' previous' (n + l) ys
  ring_own = record { below = below_own; forward = forward_own; backward = backward_own }

  ring_other : (m : ℕ) → m < length lists → m ≢ l → IsRing n next' previous' (n + m) (get_or lists m [])
  ring_other m inside other = record {
    below = (are.rings m inside).below;
    forward = λ k within. next_stays m k inside within (λ same. absurd (other (sym same))) (λ same. absurd (other (sym same)));
    backward = λ k within. previous_stays m k inside within (λ same. absurd (other (sym same))) (λ same. absurd (other (sym same)));
  }

  -- a node that is on no list now and isn't the one that left was on none
  was_free : (y : ℕ) → y ≢ x → IsFree (set lists l ys) y → IsFree lists y
  was_free y other gone m k at =
      let inside = slice_get_within (get_or lists m []) k y at in
      elim (cases_eq m l) as (λ _. ⊥) [
        | inl same ↦
            let own : get_or (set lists l ys) l [] ≡ ys = get_or-set_same lists l ys [] listed in
            let is : get_or (get_or lists l []) k y ≡ y = rw same at (get_or_from_slice_get (get_or lists m []) k y y at) in
            let short : k < length (get_or lists l []) = rw same at inside in
            elim (cases_order k j) as (λ _. ⊥) [
              | inl here ↦ other (sym (rw here at is) ∙ more.at y)
              | inr apart ↦ elim apart as (λ _. ⊥) [
                | inl low ↦ gone l k (rw own (slice_get-get_or ys k y (omega (arith, more.inside)) ∙ ap Some (sym (more.below k y low) ∙ is)))
                | inr high ↦ was_high k y high short is gone
              ]
            ]
        | inr else ↦ gone m k (rw get_or-set_other at)
      ]
    where
      was_high : (k y : ℕ) → j < k → k < length (get_or lists l []) → get_or (get_or lists l []) k y ≡ y → IsFree (set lists l ys) y → ⊥
      was_high zero y high short is gone = absurd (omega arith)
      was_high (suc k) y high short is gone =
          let own : get_or (set lists l ys) l [] ≡ ys = get_or-set_same lists l ys [] listed in
          gone l k (rw own (slice_get-get_or ys k y (omega (arith, more.more)) ∙ ap Some (sym (more.above k y (omega arith)) ∙ is)))

  -- a node that is free now leads to itself
  leads_home : (y : ℕ) → y < n → IsFree (set lists l ys) y → get_or next' y 0 ≡ y
  leads_home y below gone =
      elim (cases_eq y x) [
        | inl same ↦ rw same forth.second
        | inr other ↦
            let free = was_free y other gone in
            forth.others y (λ same. left_free y below free same) other ∙ are.free y below free
      ]
    where
      left_free : (y : ℕ) → y < n → IsFree lists y → y ≡ before (n + l) (get_or lists l []) j → ⊥
      left_free y below free same = before_free n next previous lists are l j y below free (sym same)

  pub removed : AreLinked n next' previous' (set lists l ys)
  removed = record {
    next_sized = rw length-set (forth.sized ∙ are.next_sized);
    previous_sized = rw length-set (back.sized ∙ are.previous_sized);
    small = rw length-set are.small;
    rings = λ m inside. elim (cases_eq m l) [
      | inl same ↦ rw (same, get_or-set_same lists l ys [] listed) ring_own
      | inr other ↦ rw get_or-set_other (ring_other m (rw length-set at inside) other)
    ];
    free = leads_home;
  }

  -- the node is on no list then
  pub gone_from : IsFree (set lists l ys) x
  gone_from m k at =
      let inside = slice_get_within (get_or (set lists l ys) m []) k x at in
      elim (cases_eq m l) as (λ _. ⊥) [
        | inl same ↦
            let own : get_or (set lists l ys) m [] ≡ ys = rw same (get_or-set_same lists l ys [] listed) in
            let is : get_or ys k (n + l) ≡ x = get_or_from_slice_get ys k x (n + l) (rw own at at) in
            let short : k < length ys = rw own at inside in
            elim (cases_lt k j) as (λ _. ⊥) [
              | inl low ↦
                  let twice = here_apart n next previous lists are k j l l listed listed (omega (arith, more.more))
                  (omega (arith, more.more, more.inside)) (more.below k (n + l) low ∙ is ∙ sym stands) in
                  omega (arith, twice.1)
              | inr high ↦
                  let twice = here_apart n next previous lists are (suc k) j l l listed listed
                  (omega (arith, more.more)) (omega (arith, more.more, more.inside))
                  (more.above k (n + l) high ∙ is ∙ sym stands) in
                  omega (arith, twice.1)
            ]
        | inr other ↦
            let was : get_or (set lists l ys) m [] ≡ get_or lists m [] = get_or-set_other lists l m ys [] other in
            elsewhere m k other (rw was at at)
      ]
    where
      elsewhere : (m k : ℕ) → m ≢ l → slice_get (get_or lists m []) k ≡ Some x → ⊥
      elsewhere m k other at =
          let inside = slice_get_within (get_or lists m []) k x at in
          elim (cases_lt m (length lists)) as (λ _. ⊥) [
            | inl within ↦
                let twice = here_apart n next previous lists are k j m l within listed (omega arith)
                (omega (arith, more.more, more.inside))
                (get_or_from_slice_get (get_or lists m []) k x (n + m) at ∙ sym stands) in
                other twice.0
            | inr past ↦ let none : get_or lists m [] ≡ [] = get_or_past lists m [] past in let short : k < 0 = rw none at inside in omega arith
          ]
