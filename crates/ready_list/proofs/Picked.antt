-- Whom the bits and the lists pick, and at which priority a thread is ready.
use Rattle.std.proofs.Common.{◌≡◌, ℕ, ◌+◌, ◌<◌, true, false, List, [], ◌∷◌, length, get_or, drop, map, refl, sym, ap, ◌∙◌, arith, length-drop, get_or-drop, eqb, inl, inr}
use Rattle.std.proofs.lemmas.Bool.{cases_Bool, lt-ltb, le-ltb, eq-eqb}
use Rattle.std.proofs.lemmas.List.Folds.{list_any_at}
use Rattle.std.specs.Prelude.{Option, Some, None, All, is_some, slice_get, option_map, position}
use Rattle.std.specs.Int.{bit_at}
use Rattle.std.specs.List.{list_any}
use Rattle.std.proofs.lemmas.List.{length-map}
use Rattle.std.proofs.lemmas.List.Elements.{All-from_get_or}
use Rattle.std.proofs.lemmas.List.Sums.{position_or_len_is}
use Rattle.std.proofs.lemmas.Option.{slice_get-map, slice_get_within, get_or_from_slice_get}
use Rattle.sym_base.specs.declared.number.ObjNo.{ObjNo}
use Rattle.links.specs.Linked.{Linked, list_at}
use Rattle.links.specs.Linked as nodes
use Rattle.ready_list.specs.Queue.{holds}
use Rattle.ready_list.specs.Ready.{first_of_highest}
use Rattle.ready_list.specs.Kept.{AreKept, mark, thread, queues_of}
use Rattle.ready_list.proofs.Highest.{found_highest, highest_empty, empty_highest}
use Rattle.ready_list.proofs.Threads.{holds_thread, any_thread, queue_thread}
use Rattle.links.proofs.Owned.{stands_own, held_own}

-- a list without a mark is empty
unmarked : (list : List ℕ) → mark list ≡ 0 → list ≡ []
unmarked [] none = refl
unmarked (node ∷ rest) none = absurd (omega arith)

-- nobody is picked exactly where each queue is empty
pub none_picked : (queues : List (List ObjNo)) (r : Option ObjNo) → r ≡ first_of_highest queues
    → (is_some r ≡ false → All (λ queue. queue ≡ []) queues) × (All (λ queue. queue ≡ []) queues → is_some r ≡ false)
none_picked queues None is = (λ none. empty_highest queues (sym is), λ all. refl)
none_picked queues (Some t) is = (λ none. absurd (cc), λ all. let none = highest_empty queues all in absurd (cc))

module _ (threads : ℕ) (links : Linked) (priorities : List ℕ) (mask : ℕ) (kept : AreKept threads links priorities mask) where
  -- the queue of a priority without a bit is empty
  empty_queue : (p : ℕ) → p < 64 → bit_at mask p ≡ 0 → get_or (queues_of links.lists) p [] ≡ []
  empty_queue p low none =
      queue_thread links.lists p ∙ ap (map thread) (unmarked (list_at links p) (sym (kept.marks p low) ∙ none))

  pub none_ready : ((p : ℕ) → bit_at mask p ≡ 0) → All (λ queue. queue ≡ []) (queues_of links.lists)
  none_ready none =
      All-from_get_or (λ (queue : List ObjNo). queue ≡ []) (queues_of links.lists) []
      (λ p inside. empty_queue p (omega (arith, kept.lists, length-map links.lists (map thread))) (none p))

  -- the first thread of the highest priority that has a bit
  pub picked : (p first : ℕ) → p < 64 → ((q : ℕ) → p < q → bit_at mask q ≡ 0)
      → Some first ≡ slice_get (list_at links p) 0 → Some (thread first) ≡ first_of_highest (queues_of links.lists)
  picked p first low above is =
      let queues = queues_of links.lists in
      let sized : length queues ≡ 64 = length-map links.lists (map thread) ∙ kept.lists in
      let empty = All-from_get_or (λ (queue : List ObjNo). queue ≡ []) (drop (p + 1) queues) [] (λ k inside.
      let short : p + 1 + k < 64 = omega (arith, sized, length-drop (p + 1) queues) in
      get_or-drop (p + 1) queues k [] ∙ empty_queue (p + 1 + k) short (above (p + 1 + k) (omega arith))) in
      let front : Some (thread first) ≡ slice_get (get_or queues p []) 0 =
      sym (ap (λ (queue : List ObjNo). slice_get queue 0) (queue_thread links.lists p)
      ∙ slice_get-map thread (list_at links p) 0 ∙ ap (option_map thread) (sym is)) in
      found_highest queues p (Some (thread first)) (omega arith) (highest_empty (drop (p + 1) queues) empty) front refl

  -- a priority that has a bit has a first thread
  pub some_first : (p : ℕ) → p < 64 → bit_at mask p ≡ 1 → list_at links p ≡ [] → ⊥
  some_first p low set empty =
      let unset : bit_at mask p ≡ 0 = rw empty at (kept.marks p low) in
      omega arith

  -- where a queue holds a thread, it is that of the thread's priority
  queue_own : (t : ObjNo) (p : ℕ) → p < 64 → holds t (get_or (queues_of links.lists) p []) ≡ true → get_or priorities t.0 0 ≡ p
  queue_own t p low held =
      let in_list : nodes.holds t.0 (list_at links p) ≡ true = sym (holds_thread t (list_at links p)) ∙ rw (queue_thread links.lists p) at held in
      held_own links priorities kept.owned t.0 p (omega (arith, kept.lists)) in_list

  pub priority_ready : (t : ObjNo) → list_any (nodes.holds t.0) links.lists ≡ true → Some (get_or priorities t.0 0) ≡ position (holds t) (queues_of links.lists)
  priority_ready t held =
      let queues = queues_of links.lists in
      let own = get_or priorities t.0 0 in
      let sized : length queues ≡ 64 = length-map links.lists (map thread) ∙ kept.lists in
      let stands = stands_own links priorities kept.owned t.0 held in
      let low : own < 64 = omega (arith, stands.listed, kept.lists) in
      let before = λ (k : ℕ) (below : k < own). elim (cases_Bool (holds t (get_or queues k []))) as (λ _. holds t (get_or queues k []) ≡ false) [
        | inl also ↦ let same = queue_own t k (omega arith) also in absurd (omega arith)
        | inr absent ↦ absent
      ] in
      let here : holds t (get_or queues own [])
      ≡ true = rw (queue_thread links.lists own)
      (holds_thread t (list_at links own) ∙ list_any_at (λ y. eqb y t.0) (list_at links own) stands.place t.0
      (slice_get_within (list_at links own) stands.place t.0 stands.at)
      (eq-eqb (get_or (list_at links own) stands.place t.0) t.0
      (get_or_from_slice_get (list_at links own) stands.place t.0 t.0 stands.at))) in
      let place = position_or_len_is (holds t) queues own [] (omega arith) before (λ _. here) in
      rw (place, lt-ltb own (length queues) (omega arith)) refl

  pub priority_unready : (t : ObjNo) → (list_any (nodes.holds t.0) links.lists ≡ true → ⊥) → None ≡ position (holds t) (queues_of links.lists)
  priority_unready t unheld =
      let queues = queues_of links.lists in
      let before = λ (k : ℕ) (below : k < length queues). elim (cases_Bool (holds t (get_or queues k []))) as (λ _. holds t (get_or queues k []) ≡ false) [
        | inl also ↦ absurd (unheld (sym (any_thread t links.lists) ∙ list_any_at (holds t) queues k [] below also))
        | inr absent ↦ absent
      ] in
      let place = position_or_len_is (holds t) queues (length queues) [] (omega arith) before (λ past. absurd (omega arith)) in
      rw (place, le-ltb (length queues) (length queues) (omega arith)) refl
