-- The machine's one list of ready threads and the queues of the 64 priorities: where the queues are those
-- of the list, they are so after each change, and both have the same first thread.
use Rattle.std.proofs.Common.{◌≡◌, inl, inr, ℕ, ◌<◌, Bool, true, false, List, [], ◌∷◌, ◌++◌, refl, sym, subst, ap, ◌∙◌}
use Rattle.std.specs.Prelude.{◌==◌, ◌||◌, not, find, filter, slice_get, All, Option, Some, None, option_map}
use Rattle.std.specs.List.{list_any}
use Rattle.std.proofs.lemmas.Bool.{cases_Bool, eq-eqb, eqb-true, or_left, or_right, false_from_ne_true}
use Rattle.std.proofs.lemmas.List.{map-append, length-replicate, get_or-replicate}
use Rattle.std.proofs.lemmas.List.Elements.{All-nil, All-head, All-tail}
use Rattle.sym_base.specs.declared.number.ObjNo.{ObjNo}
use Rattle.ready_list.specs.Queue.{holds}
use Rattle.ready_list.specs.Ready.{Ready, no_threads, added, removed, rotated, first_of_highest, priority_of}
use Rattle.ready_list.specs.Arrival.{queue_of, AreQueuesOf, unlisted, rearrived, is_listed as is_paired}
use Rattle.ready_list.proofs.Arrival.{added_last, removed_unlisted, rotated_last, picked_is, ready_listed, priority_is, holds_listed}
use Rattle.sym_base.specs.Greatest.{first_of_greatest}
use Rattle.sym_base.proofs.Greatest.{greatest_map, is_first_of_greatest}
use Rattle.machine.specs.Arrivals.{is_listed}
use Rattle.machine.specs.Tick.{moved_behind}
use Rattle.machine.specs.WellFormed.{AreApart}
use Rattle.kernel_tables.specs.ReadyQueues.{pair, pairs}
use Rattle.kernel_tables.proofs.ReadyLists.{without_unlisted}

-- what is found first is the first of those that pass
find_first : (p : ObjNo → Bool) (qs : List ObjNo) → find p qs ≡ slice_get (filter p qs) 0
find_first p [] = refl
find_first p (q ∷ qs) = elim (cases_Bool (p q)) [ inl passes ↦ rw passes refl | inr fails ↦ rw fails (find_first p qs) ]

-- the first of the greatest priority is the first of its priority
chosen_first : (rank : ObjNo → ℕ) (qs : List ObjNo) (q : ObjNo) → first_of_greatest rank qs ≡ Some q → find (λ x. (rank x) == (rank q)) qs ≡ Some q
chosen_first rank qs q some = find_first (λ x. (rank x) == (rank q)) qs ∙ (is_first_of_greatest rank qs q some).first

-- the thread of a pair
thread_of_pair : (rank : ObjNo → ℕ) (found : Option ObjNo) → option_map (λ (x : ObjNo × ℕ). x.0) (option_map (pair rank) found) ≡ found
thread_of_pair rank None = refl
thread_of_pair rank (Some q) = refl

-- the first of the highest queue is the thread that the machine chooses
pub picked_queued : (rank : ObjNo → ℕ) (qs : List ObjNo) (r : Ready) → AreQueuesOf (pairs rank qs) r → first_of_highest r.queues ≡ first_of_greatest rank qs
picked_queued rank qs r are =
    picked_is (pairs rank qs) r are
    ∙ (ap (λ (found : Option (ObjNo × ℕ)). option_map (λ (x : ObjNo × ℕ). x.0) found)
    (greatest_map (λ (y : ObjNo × ℕ). y.1) (pair rank) qs) ∙ thread_of_pair rank (first_of_greatest rank qs))

-- a thread is among the pairs where it is listed
paired_listed : (rank : ObjNo → ℕ) → (t : ObjNo) (qs : List ObjNo) → is_paired t (pairs rank qs) ≡ is_listed qs t
paired_listed rank t [] = refl
paired_listed rank t (q ∷ qs) = ap (λ (b : Bool). (q.0 == t.0) || b) (paired_listed rank t qs)

-- and is ready where it is listed
pub ready_queued : (rank : ObjNo → ℕ) → (qs : List ObjNo) (r : Ready) (t : ObjNo) → AreQueuesOf (pairs rank qs) r → list_any (holds t) r.queues ≡ is_listed qs t
ready_queued rank qs r t are = ready_listed (pairs rank qs) r t are ∙ paired_listed rank t qs

-- nobody is ready
pub nobody_queued : (rank : ObjNo → ℕ) (n : ℕ) → AreQueuesOf (pairs rank []) (no_threads n)
nobody_queued rank n = record {
  ranged = All-nil (λ (x : ObjNo × ℕ). x.1 < 64);
  sized = length-replicate {A = List ObjNo} 64 [];
  each = λ p low. get_or-replicate 64 p [] [] low;
}

-- a thread joins
pub added_queued : (rank : ObjNo → ℕ) → (qs : List ObjNo) (r : Ready) (q : ObjNo) → (rank q) < 64
    → AreQueuesOf (pairs rank qs) r → AreQueuesOf (pairs rank (qs ++ q ∷ [])) (added r q (rank q))
added_queued rank qs r q low are =
    subst (λ (l : List (ObjNo × ℕ)). AreQueuesOf l (added r q (rank q))) (sym (map-append (pair rank) qs (q ∷ [])))
    (added_last (pairs rank qs) r q (rank q) low are)

-- a thread leaves
pairs_without : (rank : ObjNo → ℕ) → (t : ObjNo) (qs : List ObjNo) → pairs rank (filter (λ q. not (q.0 == t.0)) qs) ≡ unlisted t (pairs rank qs)
pairs_without rank t [] = refl
pairs_without rank t (q ∷ qs) =
    elim (cases_Bool (q.0 == t.0)) [
      | inl same ↦ rw same (pairs_without rank t qs)
      | inr other ↦ rw other (ap (λ (l : List (ObjNo × ℕ)). pair rank q ∷ l) (pairs_without rank t qs))
    ]

pub removed_queued : (rank : ObjNo → ℕ) → (qs : List ObjNo) (r : Ready) (t : ObjNo) → AreQueuesOf (pairs rank qs) r
    → AreQueuesOf (pairs rank (filter (λ q. not (q.0 == t.0)) qs)) (removed r t)
removed_queued rank qs r t are =
    subst (λ (l : List (ObjNo × ℕ)). AreQueuesOf l (removed r t)) (sym (pairs_without rank t qs))
    (removed_unlisted (pairs rank qs) r t are)

-- what is found is listed
pub found_listed : (rank : ObjNo → ℕ) → (p : ℕ) (qs : List ObjNo) (q : ObjNo) → find (λ x. (rank x) == p) qs ≡ Some q → is_listed qs q ≡ true
found_listed rank p [] q is = absurd (cc)
found_listed rank p (x ∷ xs) q is =
    elim (cases_Bool ((rank x) == p)) [
      | inl here ↦
          let e : Some x ≡ Some q = rw here at is in
          let same : x ≡ q = cc in
          or_left (x.0 == q.0) (is_listed xs q) (eq-eqb x.0 q.0 (ap (λ (y : ObjNo). y.0) same))
      | inr there ↦ or_right (x.0 == q.0) (is_listed xs q) (found_listed rank p xs q (rw there at is))
    ]

-- a thread that isn't listed is another than one that is
pub other_thread : (x q : ObjNo) (xs : List ObjNo) → is_listed xs x ≡ false → is_listed xs q ≡ true → (x.0 == q.0) ≡ false
other_thread x q xs none some =
    false_from_ne_true (x.0 == q.0) (λ same.
    let at : is_listed xs x ≡ is_listed xs q = ap (λ (n : ℕ). list_any (λ (y : ObjNo). y.0 == n) xs) (eqb-true x.0 q.0 same) in cc)

-- the first of a priority gets a new arrival
behind_is : (rank : ObjNo → ℕ) → (p : ℕ) (qs : List ObjNo) (q : ObjNo) → AreApart qs
    → find (λ x. (rank x) == p) qs ≡ Some q
    → pairs rank (filter (λ x. not (x.0 == q.0)) qs ++ q ∷ []) ≡ rearrived p (pairs rank qs)
behind_is rank p [] q once is = absurd (cc)
behind_is rank p (x ∷ xs) q once is =
    elim (cases_Bool ((rank x) == p)) [
      | inl here ↦
          let e : Some x ≡ Some q = rw here at is in
          let same : x ≡ q = cc in
          let rest : pairs rank (filter (λ z. not (z.0 == x.0)) xs ++ x ∷ []) ≡ pairs rank xs ++ pair rank x ∷ [] =
          ap (λ (l : List ObjNo). pairs rank (l ++ x ∷ [])) (without_unlisted x xs once.0) ∙ map-append (pair rank) xs (x ∷ []) in
          subst (λ (y : ObjNo). pairs rank (filter (λ z. not (z.0 == y.0)) (x ∷ xs) ++ y ∷ [])
          ≡ rearrived p (pairs rank (x ∷ xs))) same (rw (eq-eqb x.0 x.0 refl, here) rest)
      | inr there ↦
          let rest : find (λ y. (rank y) == p) xs ≡ Some q = rw there at is in
          let other = other_thread x q xs once.0 (found_listed rank p xs q rest) in
          rw (other, there) (ap (λ (l : List (ObjNo × ℕ)). pair rank x ∷ l) (behind_is rank p xs q once.1 rest))
    ]

found_ranged : (rank : ObjNo → ℕ) → (p : ℕ) (qs : List ObjNo) (q : ObjNo) → All (λ x. x.1 < 64) (pairs rank qs)
    → find (λ x. (rank x) == p) qs ≡ Some q → (rank q) < 64
found_ranged rank p [] q ranged is = absurd (cc)
found_ranged rank p (x ∷ xs) q ranged is =
    let P : ObjNo × ℕ → Type 0 = λ y. y.1 < 64 in
    elim (cases_Bool ((rank x) == p)) [
      | inl here ↦
          let e : Some x ≡ Some q = rw here at is in
          let same : x ≡ q = cc in
          let first : (rank x) < 64 = All-head P (pair rank x) (pairs rank xs) ranged in
          subst (λ (y : ObjNo). (rank y) < 64) same first
      | inr there ↦ found_ranged rank p xs q (All-tail P (pair rank x) (pairs rank xs) ranged) (rw there at is)
    ]

-- the priority of the chosen thread is one of the 64
pub chosen_ranged : (rank : ObjNo → ℕ) (qs : List ObjNo) (r : Ready) (q : ObjNo) → AreQueuesOf (pairs rank qs) r
    → first_of_greatest rank qs ≡ Some q → rank q < 64
chosen_ranged rank qs r q are some = found_ranged rank (rank q) qs q are.ranged (chosen_first rank qs q some)

-- a time slice ends: the queue of the chosen thread's priority turns
pub turned_queued : (rank : ObjNo → ℕ) (qs : List ObjNo) (r : Ready) (q : ObjNo) → AreApart qs
    → AreQueuesOf (pairs rank qs) r → first_of_greatest rank qs ≡ Some q
    → AreQueuesOf (pairs rank (moved_behind qs (Some q))) (rotated r (rank q))
turned_queued rank qs r q once are some =
    let is : pairs rank (moved_behind qs (Some q)) ≡ rearrived (rank q) (pairs rank qs) = behind_is rank (rank q) qs q once (chosen_first rank qs q some) in
    subst (λ (l : List (ObjNo × ℕ)). AreQueuesOf l (rotated r (rank q))) (sym is)
    (rotated_last (pairs rank qs) r (rank q) (chosen_ranged rank qs r q are some) are)

-- what is found stands in the queue of its priority
found_held : (rank : ObjNo → ℕ) → (p : ℕ) (qs : List ObjNo) (q : ObjNo) → find (λ x. (rank x) == p) qs ≡ Some q → holds q (queue_of p (pairs rank qs)) ≡ true
found_held rank p [] q is = absurd (cc)
found_held rank p (x ∷ xs) q is =
    elim (cases_Bool ((rank x) == p)) [
      | inl here ↦
          let e : Some x ≡ Some q = rw here at is in
          let same : x ≡ q = cc in
          let own : (x.0 == q.0) ≡ true = eq-eqb x.0 q.0 (ap (λ (y : ObjNo). y.0) same) in
          rw (here, own) refl
      | inr there ↦ rw there (found_held rank p xs q (rw there at is))
    ]

-- and in no other
held_once : (rank : ObjNo → ℕ) → (p c : ℕ) (qs : List ObjNo) (q : ObjNo) → AreApart qs
    → find (λ x. (rank x) == p) qs ≡ Some q → holds q (queue_of c (pairs rank qs)) ≡ true → c ≡ p
held_once rank p c [] q once is held = absurd (cc)
held_once rank p c (x ∷ xs) q once is held =
    elim (cases_Bool ((rank x) == p)) [
      | inl here ↦
          let e : Some x ≡ Some q = rw here at is in
          let same : x ≡ q = cc in
          let of_x = eqb-true (rank x) p here in
          elim (cases_Bool ((rank x) == c)) [
            | inl own ↦ sym (eqb-true (rank x) c own) ∙ of_x
            | inr apart ↦
                let listed : is_listed xs q ≡ true = sym (paired_listed rank q xs) ∙ holds_listed q c (pairs rank xs) (rw apart at held) in
                let none : is_listed xs q ≡ false = subst (λ (y : ObjNo). is_listed xs y ≡ false) same once.0 in
                absurd (cc)
          ]
      | inr there ↦
          let rest : find (λ y. (rank y) == p) xs ≡ Some q = rw there at is in
          let other = other_thread x q xs once.0 (found_listed rank p xs q rest) in
          elim (cases_Bool ((rank x) == c)) [
            | inl own ↦ held_once rank p c xs q once.1 rest (rw (own, other) at held)
            | inr apart ↦ held_once rank p c xs q once.1 rest (rw apart at held)
          ]
    ]

-- the queues say the priority of the chosen thread
pub chosen_priority : (rank : ObjNo → ℕ) (qs : List ObjNo) (r : Ready) (q : ObjNo) → AreApart qs
    → AreQueuesOf (pairs rank qs) r → first_of_greatest rank qs ≡ Some q → priority_of r q ≡ Some (rank q)
chosen_priority rank qs r q once are some =
    let found = chosen_first rank qs q some in
    priority_is (pairs rank qs) r q (rank q) are (chosen_ranged rank qs r q are some) (found_held rank (rank q) qs q found)
    (λ c held. held_once rank (rank q) c qs q once found held)
