-- Queues of threads and lists of their numbers.
use Rattle.std.proofs.Common.{◌≡◌, ℕ, true, false, eqb, List, [], ◌∷◌, ◌++◌, map, set, get_or, refl, sym, ◌∙◌, inl, inr}
use Rattle.std.specs.List.{list_any}
use Rattle.std.proofs.lemmas.Bool.{cases_Bool}
use Rattle.std.proofs.lemmas.List.{map-append, map-set}
use Rattle.sym_base.specs.declared.number.ObjNo.{ObjNo}
use Rattle.links.specs.Linked as nodes
use Rattle.links.proofs.Seen.{seen_at, seen_holds, seen_any, seen_unlinked, seen_pushed}
use Rattle.ready_list.specs.Queue.{holds, without, turned}
use Rattle.ready_list.specs.Kept.{thread, queues_of}

-- no test has both answers
pub both_tests : false ≡ true → ⊥
both_tests same = absurd (cc)

-- a queue holds the threads whose numbers its list holds
pub holds_thread : (t : ObjNo) (xs : List ℕ) → holds t (map thread xs) ≡ nodes.holds t.0 xs
holds_thread t xs = seen_holds thread (λ (other : ObjNo). eqb other.0 t.0) t.0 (λ m. refl) xs

pub any_thread : (t : ObjNo) (lists : List (List ℕ)) → list_any (holds t) (queues_of lists) ≡ list_any (nodes.holds t.0) lists
any_thread t lists = seen_any thread (λ (other : ObjNo). eqb other.0 t.0) t.0 (λ m. refl) lists

-- and loses those that its list loses
pub all_without_thread : (t : ObjNo) (lists : List (List ℕ)) → queues_of (map (nodes.without t.0) lists) ≡ map (without t) (queues_of lists)
all_without_thread t lists = seen_unlinked thread (λ (other : ObjNo). eqb other.0 t.0) t.0 (λ m. refl) lists

-- the queue of a priority is that of its list
pub queue_thread : (lists : List (List ℕ)) (p : ℕ) → get_or (queues_of lists) p [] ≡ map thread (get_or lists p [])
queue_thread lists p = seen_at thread lists p

-- one thread more in a queue
pub queue_added : (lists : List (List ℕ)) (p : ℕ) (t : ObjNo)
    → queues_of (set lists p (get_or lists p [] ++ t.0 ∷ []))
    ≡ set (queues_of lists) p (get_or (queues_of lists) p [] ++ t ∷ [])
queue_added lists p t = seen_pushed thread t.0 t refl lists p

-- the first of a queue comes last
pub queue_turned : (lists : List (List ℕ)) (p first : ℕ) (rest : List ℕ) → get_or lists p [] ≡ first ∷ rest
    → queues_of (set lists p (rest ++ first ∷ [])) ≡ set (queues_of lists) p (turned (get_or (queues_of lists) p []))
queue_turned lists p first rest is =
    rw (map-set (map thread) lists p (rest ++ first ∷ []), map-append, queue_thread lists p, is) refl

-- a thread that was taken out of each queue stands in none
without_unheld : (t : ObjNo) (queue : List ObjNo) → holds t (without t queue) ≡ false
without_unheld t [] = refl
without_unheld t (x ∷ rest) =
    elim (cases_Bool (eqb x.0 t.0)) [
      | inl same ↦ rw same (without_unheld t rest)
      | inr other ↦ rw (other, other) (without_unheld t rest)
    ]

none_unheld : (t : ObjNo) (queues : List (List ObjNo)) → list_any (holds t) (map (without t) queues) ≡ false
none_unheld t [] = refl
none_unheld t (queue ∷ queues) = rw (without_unheld t queue, none_unheld t queues) refl

pub removed_unready : (queues : List (List ObjNo)) (t : ObjNo) → list_any (holds t) (map (without t) queues) ≡ true → ⊥
removed_unready queues t ready = let no : false ≡ true = sym (none_unheld t queues) ∙ ready in absurd (cc)
