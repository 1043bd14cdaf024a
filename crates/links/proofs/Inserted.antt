-- A node that is on no list comes to a place of a list.
use Rattle.std.proofs.Common.{◌≡◌, ◌≢◌, ℕ, zero, suc, ◌+◌, ◌<◌, ◌≤◌, List, [], length, get_or, set, refl, sym, ap, ◌∙◌, arith, inl, inr, get_or-set_same, get_or-set_other, length-set}
use Rattle.std.specs.Prelude.{Some, slice_get}
use Rattle.std.proofs.lemmas.Bool.{cases_eq, cases_lt, cases_order}
use Rattle.std.proofs.lemmas.Option.{slice_get-get_or, slice_get_within, get_or_from_slice_get}
use Rattle.links.specs.Rings.{here, before, IsRing, AreLinked, IsFree}
use Rattle.links.proofs.Edits.{IsWith, IsRewritten}
use Rattle.links.proofs.Apart.{before_apart, here_apart, here_free, before_free}

module _ (n : ℕ) (next previous : List ℕ) (lists : List (List ℕ)) (are : AreLinked n next previous lists) (l j x : ℕ)
    (ys : List ℕ) (listed : l < length lists) (node : x < n) (free : IsFree lists x)
    (more : IsWith (get_or lists l []) ys x j) (next' previous' : List ℕ) where
  -- what stands before a place up to the new node's stays
  before_low : (k : ℕ) → k ≤ j → before (n + l) ys k ≡ before (n + l) (get_or lists l []) k
  before_low zero low = refl
  before_low (suc k) low = more.below k (n + l) (omega arith)

  -- and what stood before a later place stands before the next one
  before_high : (k : ℕ) → j < k → before (n + l) ys (suc k) ≡ before (n + l) (get_or lists l []) k
  before_high zero high = absurd (omega arith)
  before_high (suc k) high = more.above k (n + l) (omega arith)

  module _ (forth : IsRewritten next next' (before (n + l) (get_or lists l []) j) x x
      (here (n + l) (get_or lists l []) j)) (back : IsRewritten previous previous' x (before (n + l) (get_or lists l []) j)
      (here (n + l) (get_or lists l []) j) x) where
    next_stays : (m k : ℕ) → m < length lists → k ≤ length (get_or lists m []) → (l ≡ m → k ≢ j)
        → get_or next' (before (n + m) (get_or lists m []) k) 0 ≡ here (n + m) (get_or lists m []) k
    next_stays m k inside within other =
        forth.others (before (n + m) (get_or lists m []) k)
        (λ same. let is = before_apart n next previous lists are k j m l inside listed within more.inside same in
        other (sym is.0) is.1) (before_free n next previous lists are m k x node free)
        ∙ (are.rings m inside).forward k within
      where
        more_inside : j ≤ length (get_or lists l [])
        more_inside = more.inside

    previous_stays : (m k : ℕ) → m < length lists → k ≤ length (get_or lists m []) → (l ≡ m → k ≢ j)
        → get_or previous' (here (n + m) (get_or lists m []) k) 0 ≡ before (n + m) (get_or lists m []) k
    previous_stays m k inside within other =
        back.others (here (n + m) (get_or lists m []) k) (here_free n next previous lists are m k x node free)
        (λ same. let is = here_apart n next previous lists are k j m l inside listed within more.inside same in
        other (sym is.0) is.1)
        ∙ (are.rings m inside).backward k within

    forward_own : (k : ℕ) → k ≤ length ys → get_or next' (before (n + l) ys k) 0 ≡ here (n + l) ys k
    forward_own k within =
        elim (cases_order k j) [
          | inl same ↦ rw (same, before_low j (omega arith), more.at (n + l)) forth.first
          | inr apart ↦ elim apart [
            | inl low ↦ rw (before_low k (omega arith), more.below k (n + l) low) (next_stays l k listed (omega (arith, more.inside)) (λ _ e. omega arith))
            | inr high ↦ forward_high k high within
          ]
        ]
      where
        forward_high : (k : ℕ) → j < k → k ≤ length ys → get_or next' (before (n + l) ys k) 0 ≡ here (n + l) ys k
        forward_high zero high within = absurd (omega arith)
        forward_high (suc k) high within = elim (cases_eq j k) [
          | inl same ↦ rw (more.above k (n + l) (omega arith), ← same, more.at (n + l)) forth.second
          | inr apart ↦
              rw (more.above k (n + l) (omega arith), before_high k (omega arith))
              (next_stays l k listed (omega (arith, more.more)) (λ _ e. omega arith))
        ]

    backward_own : (k : ℕ) → k ≤ length ys → get_or previous' (here (n + l) ys k) 0 ≡ before (n + l) ys k
    backward_own k within =
        elim (cases_order k j) [
          | inl same ↦ rw (same, before_low j (omega arith), more.at (n + l)) back.first
          | inr apart ↦ elim apart [
            | inl low ↦ rw (before_low k (omega arith), more.below k (n + l) low) (previous_stays l k listed (omega (arith, more.inside)) (λ _ e. omega arith))
            | inr high ↦ backward_high k high within
          ]
        ]
      where
        backward_high : (k : ℕ) → j < k → k ≤ length ys → get_or previous' (here (n + l) ys k) 0 ≡ before (n + l) ys k
        backward_high zero high within = absurd (omega arith)
        backward_high (suc k) high within = elim (cases_eq j k) [
          | inl same ↦ rw (more.above k (n + l) (omega arith), ← same, more.at (n + l)) back.second
          | inr apart ↦
              rw (more.above k (n + l) (omega arith), before_high k (omega arith))
              (previous_stays l k listed (omega (arith, more.more)) (λ _ e. omega arith))
        ]

    below_own : (k : ℕ) → k < length ys → here (n + l) ys k < n
    below_own k inside =
        elim (cases_order k j) [
          | inl same ↦ rw (same, more.at (n + l)) node
          | inr apart ↦ elim apart [
            | inl low ↦ rw (more.below k (n + l) low) ((are.rings l listed).below k (omega (arith, more.inside)))
            | inr high ↦ below_high k high inside
          ]
        ]
      where
        below_high : (k : ℕ) → j < k → k < length ys → here (n + l) ys k < n
        below_high zero high inside = absurd (omega arith)
        below_high (suc k) high inside = rw (more.above k (n + l) (omega arith)) ((are.rings l listed).below k (omega (arith, more.more)))

    ring_own : IsRing n next' previous' (n + l) ys
    ring_own = record { below = below_own; forward = forward_own; backward = backward_own }

    ring_other : (m : ℕ) → m < length lists → m ≢ l → IsRing n next' previous' (n + m) (get_or lists m [])
    ring_other m inside other = record {
      below = (are.rings m inside).below;
      forward = λ k within. next_stays m k inside within (λ same. absurd (other (sym same)));
      backward = λ k within. previous_stays m k inside within (λ same. absurd (other (sym same)));
    }

    -- what was on a list is on it still, and so is the new node
    still_listed : (m k y : ℕ) → slice_get (get_or lists m []) k ≡ Some y → IsFree (set lists l ys) y → ⊥
    still_listed m k y stands gone =
        let inside = slice_get_within (get_or lists m []) k y stands in
        elim (cases_eq m l) as (λ _. ⊥) [
          | inl same ↦
              let own : get_or (set lists l ys) l [] ≡ ys = get_or-set_same lists l ys [] listed in
              let is : get_or (get_or lists l []) k y ≡ y = rw same at (get_or_from_slice_get (get_or lists m []) k y y stands) in
              let short : k < length (get_or lists l []) = rw same at inside in
              elim (cases_lt k j) as (λ _. ⊥) [
                | inl low ↦ gone l k (rw own (slice_get-get_or ys k y (omega (arith, more.more)) ∙ ap Some (more.below k y low ∙ is)))
                | inr high ↦ gone l (suc k) (rw own (slice_get-get_or ys (suc k) y (omega (arith, more.more)) ∙ ap Some (more.above k y high ∙ is)))
              ]
          | inr other ↦ gone m k (rw get_or-set_other stands)
        ]

    new_listed : IsFree (set lists l ys) x → ⊥
    new_listed gone =
        gone l j (rw (get_or-set_same lists l ys [] listed) (slice_get-get_or ys j x (omega (arith, more.more, more.inside)) ∙ ap Some (more.at x)))

    free_others : (y : ℕ) → y < n → IsFree (set lists l ys) y → get_or next' y 0 ≡ y
    free_others y below gone =
        let before_free : IsFree lists y = λ m k stands. still_listed m k y stands gone in
        forth.others y (λ same. before_free' y below before_free same) (λ same. new_listed (rw same at gone)) ∙ are.free y below before_free
      where
        before_free' : (y : ℕ) → y < n → IsFree lists y → y ≡ before (n + l) (get_or lists l []) j → ⊥
        before_free' y below gone same = before_free n next previous lists are l j y below gone (sym same)

    pub inserted : AreLinked n next' previous' (set lists l ys)
    inserted = record {
      next_sized = rw length-set (forth.sized ∙ are.next_sized);
      previous_sized = rw length-set (back.sized ∙ are.previous_sized);
      small = rw length-set are.small;
      rings = λ m inside. elim (cases_eq m l) [
        | inl same ↦ rw (same, get_or-set_same lists l ys [] listed) ring_own
        | inr other ↦ rw get_or-set_other (ring_other m (rw length-set at inside) other)
      ];
      free = free_others;
    }
