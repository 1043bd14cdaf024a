-- The queues stay those of the one list in order of arrival, and the first of the highest queue is the
-- list's first of the greatest priority.
use Rattle.std.proofs.Common.{◌≡◌, ◌≢◌, ℕ, ◌+◌, ◌<◌, ◌≤◌, Bool, true, false, not, eqb, List, [], ◌∷◌, ◌++◌, length, get_or, refl, sym, ap, ◌∙◌, arith, inl, inr, get_or-set_same, get_or-set_other, length-set, append-nil, drop, length-drop, get_or-drop}
use Rattle.std.specs.Prelude.{Option, Some, None, All, slice_get, option_map, filter}
use Rattle.std.specs.List.{list_any}
use Rattle.std.proofs.lemmas.Bool.{cases_Bool, cases_eq, eq-eqb, eqb-true, ne_eqb, lt-ltb}
use Rattle.std.proofs.lemmas.List.{get_or-map, length-map, map-append, get_or_read}
use Rattle.std.proofs.lemmas.List.Elements.{filter-append, All-cons, All-head, All-tail, All-filter, All-push, All-from_get_or, All-get_or}
use Rattle.sym_base.specs.declared.number.ObjNo.{ObjNo}
use Rattle.ready_list.specs.Queue.{holds, without, turned}
use Rattle.ready_list.specs.Ready.{Ready, added, removed, rotated, moved, first_of_highest, priority_of}
use Rattle.std.proofs.lemmas.List.Folds.{Any-from_list_any, list_any_at}
use Rattle.std.proofs.lemmas.List.Sums.{position_or_len_is}
use Rattle.ready_list.proofs.Highest.{highest_empty, found_highest}
use Rattle.sym_base.proofs.Greatest.{none_greatest, is_first_of_greatest}
use Rattle.std.proofs.lemmas.Option.{slice_get-map, slice_get_within, get_or_from_slice_get}
use Rattle.ready_list.specs.Arrival.{queue_of, AreQueuesOf, best, first_of_greatest, is_listed, unlisted, rearrived}

abbrev Listed : Type 0
Listed = List (ObjNo × ℕ)

-- the threads of a priority, of two lists one after the other
queue_of-append : (p : ℕ) (xs ys : Listed) → queue_of p (xs ++ ys) ≡ queue_of p xs ++ queue_of p ys
queue_of-append p xs ys = rw (filter-append (λ x. eqb x.1 p) xs ys, map-append (λ (x : ObjNo × ℕ). x.0)) refl

-- one thread is among those of its priority, and of no other
queue_of-own : (t : ObjNo) (p : ℕ) → queue_of p ((t, p) ∷ []) ≡ t ∷ []
queue_of-own t p = rw (eq-eqb p p refl) refl

queue_of-other : (t : ObjNo) (p q : ℕ) → q ≢ p → queue_of q ((t, p) ∷ []) ≡ []
queue_of-other t p q ne = rw (ne_eqb p q (λ e. ne (sym e))) refl

-- a thread that is added is the last in order of arrival
pub added_last : (list : Listed) (r : Ready) (t : ObjNo) (p : ℕ) → p < 64 → AreQueuesOf list r → AreQueuesOf (list ++ (t, p) ∷ []) (added r t p)
added_last list r t p low are = record {
  ranged = All-push (λ (x : ObjNo × ℕ). x.1 < 64) list (t, p) are.ranged low;
  sized = rw length-set are.sized;
  each = λ q within. elim (cases_eq q p) [
    | inl here ↦ let inside : p < length r.queues = omega (arith, are.sized) in
        rw (here, get_or-set_same) (ap (λ (q : List ObjNo). q ++ t ∷ []) (are.each p low)
        ∙ sym (queue_of-append p list ((t, p) ∷ []) ∙ ap (λ (q : List ObjNo). queue_of p list ++ q) (queue_of-own t p)))
    | inr there ↦
        rw get_or-set_other (are.each q within
        ∙ sym (queue_of-append q list ((t, p) ∷ [])
        ∙ ap (λ (z : List ObjNo). queue_of q list ++ z) (queue_of-other t p q there) ∙ append-nil (queue_of q list)))
  ];
}

-- the threads of a priority but for one
queue_of-unlisted : (p : ℕ) (t : ObjNo) (list : Listed) → queue_of p (unlisted t list) ≡ without t (queue_of p list)
queue_of-unlisted p t [] = refl
queue_of-unlisted p t (x ∷ later) =
    let rest = queue_of-unlisted p t later in
    elim (cases_Bool (eqb x.0.0 t.0)) [
      | inl same ↦ elim (cases_Bool (eqb x.1 p)) [
        | inl here ↦ rw (same, here, same) rest
        | inr there ↦ rw (same, there) rest
      ]
      | inr other ↦ elim (cases_Bool (eqb x.1 p)) [
        | inl here ↦ rw (other, here, other) (ap (λ (q : List ObjNo). x.0 ∷ q) rest)
        | inr there ↦ rw (other, there) rest
      ]
    ]

-- a thread that is removed is gone from the order of arrival
pub removed_unlisted : (list : Listed) (r : Ready) (t : ObjNo) → AreQueuesOf list r → AreQueuesOf (unlisted t list) (removed r t)
removed_unlisted list r t are = record {
  ranged = All-filter (λ x. not (eqb x.0.0 t.0)) (λ (x : ObjNo × ℕ). x.1 < 64) list are.ranged;
  sized = rw length-map are.sized;
  each = λ q within.
      let inside : q < length r.queues = omega (arith, are.sized) in
      get_or-map (without t) r.queues q [] [] inside ∙ ap (without t) (are.each q within) ∙ sym (queue_of-unlisted q t list);
}

-- a thread whose priority is set is the last in order of arrival
pub moved_last : (list : Listed) (r : Ready) (t : ObjNo) (p : ℕ) → p < 64 → AreQueuesOf list r → AreQueuesOf (unlisted t list ++ (t, p) ∷ []) (moved r t p)
moved_last list r t p low are = added_last (unlisted t list) (removed r t) t p low (removed_unlisted list r t are)

-- the first of a priority comes last among its equals
queue_of-rearrived : (p : ℕ) (list : Listed) → queue_of p (rearrived p list) ≡ turned (queue_of p list)
queue_of-rearrived p [] = refl
queue_of-rearrived p (x ∷ later) =
    elim (cases_Bool (eqb x.1 p)) [
      | inl here ↦
          let one : queue_of p (x ∷ []) ≡ x.0 ∷ [] = rw here refl in
          rw here (queue_of-append p later (x ∷ []) ∙ ap (λ (q : List ObjNo). queue_of p later ++ q) one)
      | inr there ↦ rw (there, there) (queue_of-rearrived p later)
    ]

-- and the other priorities keep their order
queue_of-rearrived_other : (p q : ℕ) → q ≢ p → (list : Listed) → queue_of q (rearrived p list) ≡ queue_of q list
queue_of-rearrived_other p q ne [] = refl
queue_of-rearrived_other p q ne (x ∷ later) =
    elim (cases_Bool (eqb x.1 p)) [
      | inl here ↦
          let is : x.1 ≡ p = eqb-true x.1 p here in
          let not_q : eqb x.1 q ≡ false = ne_eqb x.1 q (λ e. ne (sym e ∙ is)) in
          let one : queue_of q (x ∷ []) ≡ [] = rw not_q refl in
          rw (here, not_q) (queue_of-append q later (x ∷ []) ∙ ap (λ (z : List ObjNo). queue_of q later ++ z) one ∙ append-nil (queue_of q later))
      | inr there ↦
          let rest = queue_of-rearrived_other p q ne later in
          elim (cases_Bool (eqb x.1 q)) [
            | inl own ↦ rw (there, own) (ap (λ (q : List ObjNo). x.0 ∷ q) rest)
            | inr other ↦ rw (there, other) rest
          ]
    ]

-- the priorities stay in range
ranged_rearrived : (p : ℕ) (list : Listed) → All (λ x. x.1 < 64) list → All (λ x. x.1 < 64) (rearrived p list)
ranged_rearrived p [] all = all
ranged_rearrived p (x ∷ later) all =
    let P : ObjNo × ℕ → Type 0 = λ x. x.1 < 64 in
    let first = All-head P x later all in
    let rest = All-tail P x later all in
    elim (cases_Bool (eqb x.1 p)) [
      | inl here ↦ rw here (All-push P later x rest first)
      | inr there ↦ rw there (All-cons P x (rearrived p later) first (ranged_rearrived p later rest))
    ]

-- a rotated priority's first is the last in order of arrival
pub rotated_last : (list : Listed) (r : Ready) (p : ℕ) → p < 64 → AreQueuesOf list r → AreQueuesOf (rearrived p list) (rotated r p)
rotated_last list r p low are = record {
  ranged = ranged_rearrived p list are.ranged;
  sized = rw length-set are.sized;
  each = λ q within. elim (cases_eq q p) [
    | inl here ↦ let inside : p < length r.queues = omega (arith, are.sized) in
        rw (here, get_or-set_same, are.each p low) (sym (queue_of-rearrived p list))
    | inr there ↦ rw (get_or-set_other, queue_of-rearrived_other p q there) (are.each q within)
  ];
}

-- nobody has a priority above the greatest
none_above : (list : Listed) (m q : ℕ) → All (λ y. y.1 ≤ m) list → m < q → queue_of q list ≡ []
none_above [] m q all above = refl
none_above (x ∷ later) m q all above =
    let first = All-head (λ (y : ObjNo × ℕ). y.1 ≤ m) x later all in
    let other : eqb x.1 q ≡ false = ne_eqb x.1 q (λ e. omega arith) in
    rw other (none_above later m q (All-tail (λ (y : ObjNo × ℕ). y.1 ≤ m) x later all) above)

-- the queues above the greatest priority are empty
empty_above : (list : Listed) (r : Ready) (m : ℕ) → AreQueuesOf list r → All (λ y. y.1 ≤ m) list → All (λ queue. queue ≡ []) (drop (m + 1) r.queues)
empty_above list r m are all =
    All-from_get_or (λ (queue : List ObjNo). queue ≡ []) (drop (m + 1) r.queues) [] (λ k within.
    let short : m + 1 + k < 64 = omega (arith, are.sized, length-drop (m + 1) r.queues) in
    get_or-drop (m + 1) r.queues k [] ∙ are.each (m + 1 + k) short ∙ none_above list m (m + 1 + k) all (omega arith))

picked_by : (list : Listed) (r : Ready) (o : Option (ObjNo × ℕ)) → AreQueuesOf list r → best list ≡ o → first_of_highest r.queues ≡ option_map (λ x. x.0) o
picked_by list r None are none =
    highest_empty r.queues (All-from_get_or (λ (queue : List ObjNo). queue ≡ []) r.queues [] (λ p within.
    are.each p (omega (arith, are.sized)) ∙ ap (queue_of p) (none_greatest (λ x. x.1) list none)))
picked_by list r (Some x) are some =
    let is = is_first_of_greatest (λ x. x.1) list x some in
    let low : x.1 < 64 = rw (get_or_from_slice_get list is.place x x is.at) at
    (All-get_or (λ (y : ObjNo × ℕ). y.1 < 64) list is.place x (slice_get_within list is.place x is.at) are.ranged) in
    let inside : x.1 < length r.queues = omega (arith, are.sized) in
    let own : slice_get (queue_of x.1 list) 0
    ≡ Some x.0 = slice_get-map (λ (y : ObjNo × ℕ). y.0) (filter (λ y. eqb y.1 x.1) list) 0
    ∙ ap (option_map (λ (y : ObjNo × ℕ). y.0)) is.first in
    let first : Some x.0 ≡ slice_get (get_or r.queues x.1 []) 0 = sym (ap (λ (q : List ObjNo). slice_get q 0) (are.each x.1 low) ∙ own) in
    sym (found_highest r.queues x.1 (Some x.0) inside (highest_empty (drop (x.1 + 1) r.queues) (empty_above list r x.1 are is.greatest)) first refl)

-- the first of the highest queue is the first of the greatest priority
pub picked_is : (list : Listed) (r : Ready) → AreQueuesOf list r → first_of_highest r.queues ≡ first_of_greatest list
picked_is list r are = picked_by list r (best list) are refl

-- a thread that stands in a priority's queue is listed
pub holds_listed : (t : ObjNo) (p : ℕ) (list : Listed) → holds t (queue_of p list) ≡ true → is_listed t list ≡ true
holds_listed t p [] held = held
holds_listed t p (x ∷ later) held =
    elim (cases_Bool (eqb x.0.0 t.0)) [
      | inl same ↦ rw same refl
      | inr other ↦ elim (cases_Bool (eqb x.1 p)) [
        | inl here ↦ rw other (holds_listed t p later (rw (here, other) at held))
        | inr there ↦ rw other (holds_listed t p later (rw there at held))
      ]
    ]

-- a thread that is listed stands in some priority's queue
listed_holds : (t : ObjNo) (list : Listed) → All (λ x. x.1 < 64) list → is_listed t list ≡ true → (p : ℕ) × (p < 64) × (holds t (queue_of p list) ≡ true)
listed_holds t [] ranged listed = absurd (cc)
listed_holds t (x ∷ later) ranged listed =
    let P : ObjNo × ℕ → Type 0 = λ y. y.1 < 64 in
    elim (cases_Bool (eqb x.0.0 t.0)) [
      | inl same ↦ (x.1, All-head P x later ranged, rw (eq-eqb x.1 x.1 refl, same) refl)
      | inr other ↦
          let rest = listed_holds t later (All-tail P x later ranged) (rw other at listed) in (
            rest.0,
            rest.1,
            elim (cases_Bool (eqb x.1 rest.0)) [
              | inl here ↦ rw (here, other) rest.2
              | inr there ↦ rw there rest.2
            ],
          )
    ]

-- two tests that imply each other are one
same_test : (a b : Bool) → (a ≡ true → b ≡ true) → (b ≡ true → a ≡ true) → a ≡ b
same_test true b there back = sym (there refl)
same_test false true there back = back refl
same_test false false there back = refl

-- a thread is ready exactly where it is listed
pub ready_listed : (list : Listed) (r : Ready) (t : ObjNo) → AreQueuesOf list r → list_any (holds t) r.queues ≡ is_listed t list
ready_listed list r t are =
    same_test (list_any (holds t) r.queues) (is_listed t list)
    (λ ready.
    let some = Any-from_list_any (holds t) r.queues ready in
    let read = get_or_read r.queues some.0 some.1 some.2 (sym some.3) [] in
    let queue = read ∙ are.each some.0 (omega (arith, are.sized, some.2)) in
    holds_listed t some.0 list (ap (holds t) (sym queue) ∙ some.4))
    (λ listed.
    let some = listed_holds t list are.ranged listed in
    list_any_at (holds t) r.queues some.0 [] (omega (arith, are.sized, some.1)) (ap (holds t) (are.each some.0 some.1) ∙ some.2))

-- a thread that is listed with one priority alone is ready at that priority
pub priority_is : (list : Listed) (r : Ready) (t : ObjNo) (p : ℕ) → AreQueuesOf list r → p < 64
    → holds t (queue_of p list) ≡ true → ((q : ℕ) → holds t (queue_of q list) ≡ true → q ≡ p) → priority_of r t ≡ Some p
priority_is list r t p are low held alone =
    let inside : p < length r.queues = omega (arith, are.sized) in
    let before = λ (k : ℕ) (below : k < p). elim (cases_Bool (holds t (queue_of k list))) as (λ _. holds t (get_or r.queues k []) ≡ false) [
      | inl also ↦ let same = alone k also in absurd (omega arith)
      | inr absent ↦ ap (holds t) (are.each k (omega arith)) ∙ absent
    ] in
    let place = position_or_len_is (holds t) r.queues p [] (omega arith) before (λ _. ap (holds t) (are.each p low) ∙ held) in
    rw (place, lt-ltb p (length r.queues) inside) refl
