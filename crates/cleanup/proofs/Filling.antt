-- The nodes are given out, sixteen to a thread.
use Rattle.std.proofs.Common.{◌≡◌, ◌≢◌, ℕ, zero, suc, ◌+◌, ◌-◌, ◌*◌, ◌/◌, ◌^◌, ◌<◌, ◌≤◌, true, List, [], ◌∷◌, ◌++◌, length, get_or, map, take, replicate, refl, sym, ap, ◌∙◌, arith, inl, inr, get_or-set_same, get_or-set_other, length-set}
use Rattle.std.specs.Prelude.{min}
use Rattle.std.specs.List.{list_any}
use Rattle.std.proofs.lemmas.Bool.{cases_eq}
use Rattle.std.proofs.lemmas.List.{length_push, length-replicate, get_or-replicate}
use Rattle.state_rows.specs.declared.duty.Owed.{Owed}
use Rattle.links.specs.Linked.{Linked, list_at, holds, pushed_back, empty_lists}
use Rattle.links.proofs.Marks.{place_of}
use Rattle.links.proofs.Owned.{unheld_pushed}
use Rattle.cleanup.specs.Nodes.{duties_of, HavePlaces}

-- how many of the nodes below a number are a thread's
abbrev pub given : ℕ → ℕ → ℕ
given node t = min 16 (node - 16 * t)

-- the nodes below a number are given out: no thread owes anything, and a thread has its share of them
pub record AreGiven (threads node : ℕ) (links : Linked) : Type 0 where
  pub nodes : links.nodes ≡ threads * 16
  pub lists : length links.lists ≡ threads + threads
  pub none : (t : ℕ) → t < threads → list_at links t ≡ []
  pub left : (t : ℕ) → t < threads → length (list_at links (threads + t)) ≡ given node t
  pub free : (x : ℕ) → node ≤ x → list_any (holds x) links.lists ≡ true → ⊥

-- none are at first
pub none_given : (threads : ℕ) → AreGiven threads 0 (empty_lists (threads * 16) (2 * threads))
none_given threads = record {
  nodes = refl;
  lists = length-replicate {A = List ℕ} (2 * threads) [] ∙ omega arith;
  none = λ t low. get_or-replicate {A = List ℕ} (2 * threads) t [] [] (omega arith);
  left = λ t low. ap length (get_or-replicate {A = List ℕ} (2 * threads) (threads + t) [] [] (omega arith)) ∙ omega arith;
  free = λ x _ held.
      let place = place_of (replicate (2 * threads) []) x held in
      let listed : place.0 < 2 * threads = rw length-replicate at place.2 in
      let at = rw (get_or-replicate {A = List ℕ} (2 * threads) place.0 [] [] listed) at place.3 in
      absurd (cc);
}

-- and one more
pub more_given : (threads node : ℕ) (links : Linked) → node < threads * 16 → AreGiven threads node links
    → AreGiven threads (node + 1) (pushed_back links (threads + node / 16) node)
more_given threads node links low are =
    let list = threads + node / 16 in
    let listed : list < length links.lists = omega (arith, are.lists) in
    record {
      nodes = are.nodes;
      lists = rw length-set are.lists;
      none = λ t inside. let other : t ≢ list = λ e. omega arith in rw get_or-set_other (are.none t inside);
      left = λ t inside. elim (cases_eq t (node / 16)) [
        | inl here ↦
            let was = are.left t inside in
            rw (here, get_or-set_same links.lists list (list_at links list ++ node ∷ []) [] listed)
            (length_push (list_at links list) node ∙ omega (arith, rw here at was))
        | inr there ↦
            let other : threads + t ≢ list = λ e. there (omega arith) in
            rw get_or-set_other (are.left t inside ∙ omega arith)
      ];
      free = λ x high. unheld_pushed links.lists list node x listed (λ e. omega arith) (are.free x (omega arith));
    }

-- when all are given out each thread has its places
pub all_given : (threads : ℕ) (links : Linked) (rows : List Owed) → threads < 2 ^ 16 → length rows ≡ threads * 16
    → AreGiven threads (threads * 16) links → HavePlaces threads links rows
all_given threads links rows small sized are = record {
  small = small;
  nodes = are.nodes ∙ sym sized;
  lists = are.lists;
  places = λ t low. let none : length (list_at links t) ≡ 0 = ap length (are.none t low) in let left = are.left t low in omega arith;
}

-- and nobody owes anything
nothing : {X : Type 0} (f : ℕ → X) (n : ℕ) (lists : List (List ℕ)) → n ≤ length lists
    → ((t : ℕ) → t < n → get_or lists t [] ≡ []) → map (map f) (take n lists) ≡ replicate n []
nothing f zero lists enough none = refl
nothing f (suc n) [] enough none = absurd (omega arith)
nothing f (suc n) (list ∷ lists) enough none =
    let first : list ≡ [] = none 0 (omega arith) in
    rw first (ap (λ rest. [] ∷ rest) (nothing f n lists (omega arith) (λ t low. none (suc t) (omega arith))))

pub nothing_owed : (threads : ℕ) (links : Linked) (rows : List Owed) → AreGiven threads (threads * 16) links
    → duties_of threads links rows ≡ replicate threads []
nothing_owed threads links rows are = nothing (λ node. get_or rows node _) threads links.lists (omega (arith, are.lists)) are.none
