-- Waiters and lists of their numbers.
use Rattle.std.proofs.Common.{◌≡◌, ℕ, true, false, eqb, List, [], ◌∷◌, ◌++◌, map, set, get_or, replicate, refl, ap, inl, inr}
use Rattle.std.specs.Prelude.{Option, Some, None, option_map}
use Rattle.std.specs.List.{list_any}
use Rattle.std.proofs.lemmas.Bool.{cases_Bool}
use Rattle.std.proofs.lemmas.List.{map-set}
use Rattle.sym_base.specs.declared.number.ObjNo.{ObjNo}
use Rattle.links.specs.Linked as nodes
use Rattle.links.proofs.Seen.{seen_at, seen_fresh, seen_pushed, seen_any, seen_unlinked, seen_removed}
use Rattle.state_rows.specs.Locks.{is_among, without}
use Rattle.kern_sync.specs.Kept.{thread, queues_of}

-- waiters hold the threads whose numbers their lists hold, and lose those that their lists lose
pub any_thread : (t : ObjNo) (lists : List (List ℕ)) → list_any (is_among t) (queues_of lists) ≡ list_any (nodes.holds t.0) lists
any_thread t lists = seen_any thread (λ (other : ObjNo). eqb other.0 t.0) t.0 (λ m. refl) lists

pub all_without_thread : (t : ObjNo) (lists : List (List ℕ)) → queues_of (map (nodes.without t.0) lists) ≡ map (without t) (queues_of lists)
all_without_thread t lists = seen_unlinked thread (λ (other : ObjNo). eqb other.0 t.0) t.0 (λ m. refl) lists

-- the waiters of an object are those of its list
pub queue_thread : (lists : List (List ℕ)) (o : ℕ) → get_or (queues_of lists) o [] ≡ map thread (get_or lists o [])
queue_thread lists o = seen_at thread lists o

-- one waiter more, and one less
pub queue_added : (lists : List (List ℕ)) (o : ℕ) (t : ObjNo)
    → queues_of (set lists o (get_or lists o [] ++ t.0 ∷ []))
    ≡ set (queues_of lists) o (get_or (queues_of lists) o [] ++ t ∷ [])
queue_added lists o t = seen_pushed thread t.0 t refl lists o

pub queue_left : (lists : List (List ℕ)) (o : ℕ) (t : ObjNo)
    → queues_of (set lists o (nodes.without t.0 (get_or lists o [])))
    ≡ set (queues_of lists) o (without t (get_or (queues_of lists) o []))
queue_left lists o t = seen_removed thread (λ (other : ObjNo). eqb other.0 t.0) t.0 (λ m. refl) lists o

-- and none is left
pub queue_emptied : (lists : List (List ℕ)) (o : ℕ) → queues_of (set lists o []) ≡ set (queues_of lists) o []
queue_emptied lists o = map-set (map thread) lists o []

-- the thread of a number is that number's
pub option_thread : (t : ObjNo) (r : Option ℕ) → Some t ≡ option_map thread r → r ≡ Some t.0
option_thread t None is = absurd (cc)
option_thread t (Some node) is = let same : t ≡ thread node = cc in rw same refl

-- a thread that waits nowhere leaves nothing behind
without_absent : (t : ObjNo) (queue : List ObjNo) → is_among t queue ≡ false → without t queue ≡ queue
without_absent t [] absent = refl
without_absent t (x ∷ rest) absent =
    elim (cases_Bool (eqb x.0 t.0)) [
      | inl same ↦ let no : true ≡ false = rw same at absent in absurd (cc)
      | inr other ↦ rw other (ap (λ (q : List ObjNo). x ∷ q) (without_absent t rest (rw other at absent)))
    ]

pub all_without_absent : (t : ObjNo) (queues : List (List ObjNo)) → list_any (is_among t) queues ≡ false → map (without t) queues ≡ queues
all_without_absent t [] absent = refl
all_without_absent t (queue ∷ queues) absent =
    elim (cases_Bool (is_among t queue)) [
      | inl held ↦ let no : true ≡ false = rw held at absent in absurd (cc)
      | inr unheld ↦ rw (without_absent t queue unheld, all_without_absent t queues (rw unheld at absent)) refl
    ]

-- no waiters of no nodes
pub none_waiting : (n : ℕ) → queues_of (replicate n []) ≡ replicate n []
none_waiting n = seen_fresh thread n
