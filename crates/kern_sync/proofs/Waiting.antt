-- The waiter that is served next, and what is kept of the table.
use Rattle.std.proofs.Common.{◌≡◌, ℕ, ◌-◌, true, false, List, [], ◌∷◌, ◌++◌, set, get_or, refl, sym, ◌∙◌, arith, length-set}
use Rattle.std.specs.Prelude.{Option, Some, None, is_some, slice_get, option_map}
use Rattle.std.specs.List.{list_any}
use Rattle.std.proofs.lemmas.List.{length-map, set-get_or}
use Rattle.sym_base.specs.declared.number.ObjNo.{ObjNo}
use Rattle.sym_base.specs.Greatest.{first_of_greatest}
use Rattle.sym_base.proofs.Greatest.{greatest_map, is_first_of_greatest, none_greatest}
use Rattle.links.specs.Linked.{Linked, list_at, with_list}
use Rattle.links.specs.Linked as nodes
use Rattle.state_rows.specs.declared.locks.Owner.{Owner}
use Rattle.state_rows.specs.declared.locks.LockRows.{LockRows}
use Rattle.kern_sync.specs.KernelLocks.{KernelLocks, best_of, priority_of, with_rows, without_best}
use Rattle.state_rows.specs.Locks.{owner_at, count_at, waiters_at, is_waiting}
use Rattle.state_rows.specs.LockChanges.{after_remove, after_sweep, after_wait}
use Rattle.kern_sync.specs.Kept.{AreKept, thread, locks_of, queues_of}
use Rattle.kern_sync.proofs.Threads.{all_without_absent, all_without_thread, any_thread, queue_thread, queue_added, queue_emptied, queue_left, option_thread}
use Rattle.std.proofs.lemmas.Bool.{false_from_ne_true}

module _ (owners : List (Option Owner)) (counts priorities : List ℕ) (links : Linked) (kept : AreKept owners counts priorities links) where
  -- one list may change
  pub with_list_kept : (o : ℕ) (list : List ℕ) → AreKept owners counts priorities (with_list links o list)
  with_list_kept o list = record {
    small = kept.small;
    lists = rw length-set kept.lists;
    counted = kept.counted;
    weighed = kept.weighed;
  }

  -- a thread may leave all
  pub unlinked_kept : (t : ℕ) → AreKept owners counts priorities (nodes.unlinked links t)
  unlinked_kept t = record {
    small = kept.small;
    lists = rw length-map kept.lists;
    counted = kept.counted;
    weighed = kept.weighed;
  }

  -- the best waiter is the first node of the greatest weight
  pub best_is : (o : ObjNo)
      → best_of (locks_of owners counts priorities links) o
      ≡ option_map thread (first_of_greatest (λ node. get_or priorities node 0) (list_at links o.0))
  best_is o =
      rw (queue_thread links.lists o.0) (greatest_map (priority_of (locks_of owners counts priorities links)) thread (list_at links o.0))

  -- where it stands
  pub best_stands : (o t : ObjNo) → Some t ≡ best_of (locks_of owners counts priorities links) o
      → (place : ℕ) × (slice_get (list_at links o.0) place ≡ Some t.0)
  best_stands o t is =
      let first = is_first_of_greatest (λ node. get_or priorities node 0) (list_at links o.0) t.0
      (option_thread t (first_of_greatest (λ node. get_or priorities node 0) (list_at links o.0)) (is ∙ best_is o)) in
      (first.place, first.at)

  -- and what it leaves
  pub best_left : (o t : ObjNo) → Some t ≡ best_of (locks_of owners counts priorities links) o
      → locks_of owners counts priorities (with_list links o.0 (nodes.without t.0 (list_at links o.0)))
      ≡ without_best (locks_of owners counts priorities links) o
  best_left o t is = rw (← is, queue_left links.lists o.0 t) refl

-- a thread whose node stands nowhere waits for nothing
pub waits_not : (owners : List (Option Owner)) (counts priorities : List ℕ) (links : Linked) (t : ObjNo)
    → (list_any (nodes.holds t.0) links.lists ≡ true → ⊥)
    → is_waiting (locks_of owners counts priorities links).rows t ≡ false
waits_not owners counts priorities links t free =
    any_thread t links.lists ∙ false_from_ne_true (list_any (nodes.holds t.0) links.lists) free

-- nobody is served next exactly where nobody waits
pub none_best : (s : KernelLocks) (o : ObjNo) (r : Option ObjNo) → r ≡ best_of s o
    → (is_some r ≡ false → waiters_at s.rows o ≡ []) × (waiters_at s.rows o ≡ [] → is_some r ≡ false)
none_best s o r is = (
  λ none. none_greatest (priority_of s) (waiters_at s.rows o) (sym is ∙ option_none r none),
  λ empty. rw (is, empty) refl,
)
  where
    option_none : (r : Option ObjNo) → is_some r ≡ false → r ≡ None
    option_none None none = refl
    option_none (Some t) none = absurd (cc)

-- and then nothing changes
pub best_none : (s : KernelLocks) (o : ObjNo) → None ≡ best_of s o → s ≡ without_best s o
best_none s o is = rw (← is, set-get_or s.rows.waiters o.0 []) refl

-- one part written anew and the others as they were
pub waiters_alone : (r : LockRows) (o : ObjNo) (queue : List ObjNo)
    → record r { waiters = set r.waiters o.0 queue }
    ≡ record r { owners = set r.owners o.0 (owner_at r o); waiters = set r.waiters o.0 queue }
waiters_alone r o queue = rw (set-get_or r.owners o.0 None) refl

pub waited : (r : LockRows) (o t : ObjNo) → count_at r o ≡ 0 → record r { waiters = set r.waiters o.0 (waiters_at r o ++ t ∷ []) } ≡ after_wait r o t
waited r o t zero =
    let same : count_at r o - 1 ≡ count_at r o = omega (arith, zero) in
    rw (same, set-get_or r.counts o.0 0, zero) refl

-- a thread that waits stands last
pub waiter_added : (owners : List (Option Owner)) (counts priorities : List ℕ) (links : Linked) (o t : ObjNo)
    → (locks_of owners counts priorities (nodes.pushed_back links o.0 t.0)).rows
    ≡ record (locks_of owners counts priorities links).rows {
      waiters = set (queues_of links.lists) o.0
          (waiters_at (locks_of owners counts priorities links).rows o ++ t ∷ []);
    }
waiter_added owners counts priorities links o t = rw (queue_added links.lists o.0 t) refl

-- a thread that leaves all its lists waits for nothing, and where it stands on none nothing changes
pub waiter_removed : (owners : List (Option Owner)) (counts priorities : List ℕ) (links : Linked) (t : ObjNo)
    → locks_of owners counts priorities (nodes.unlinked links t.0)
    ≡ with_rows (locks_of owners counts priorities links)
    (after_remove (locks_of owners counts priorities links).rows t)
waiter_removed owners counts priorities links t = rw (all_without_thread t links.lists) refl

pub waiter_absent : (s : KernelLocks) (t : ObjNo) → is_waiting s.rows t ≡ false → s ≡ with_rows s (after_remove s.rows t)
waiter_absent s t absent = rw (all_without_absent t s.rows.waiters absent) refl

-- an object whose owner, count and waiters are gone
pub list_emptied : (owners : List (Option Owner)) (counts priorities : List ℕ) (links : Linked) (o : ObjNo)
    → locks_of (set owners o.0 None) (set counts o.0 0) priorities (with_list links o.0 [])
    ≡ with_rows (locks_of owners counts priorities links) (after_sweep (locks_of owners counts priorities links).rows o)
list_emptied owners counts priorities links o = rw (queue_emptied links.lists o.0) refl

-- of such an object all is kept too
pub emptied_kept : (owners : List (Option Owner)) (counts priorities : List ℕ) (links : Linked) (o : ℕ)
    → AreKept owners counts priorities links
    → AreKept (set owners o None) (set counts o 0) priorities (with_list links o [])
emptied_kept owners counts priorities links o kept = record {
  small = kept.small;
  lists = rw length-set (rw length-set kept.lists);
  counted = rw length-set (rw length-set kept.counted);
  weighed = kept.weighed;
}
