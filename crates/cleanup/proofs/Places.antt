-- The places of what threads owe.
use Rattle.std.proofs.Common.{◌≡◌, ℕ, ◌+◌, ◌<◌, ◌≤◌, true, List, [], ◌∷◌, ◌++◌, length, get_or, set, map, take, drop, refl, sym, ap, ◌∙◌, arith, inl, inr, get_or-set_same, get_or-set_other}
use Rattle.std.specs.Prelude.{Some, slice_get}
use Rattle.std.specs.List.{list_any}
use Rattle.std.proofs.lemmas.Bool.{cases_lt}
use Rattle.std.proofs.lemmas.List.{map-append, map-set, take-set-le, get_or-take, get_or_past, length-map, length-take}
use Rattle.std.proofs.lemmas.Option.{slice_get_within}
use Rattle.state_rows.specs.declared.duty.Owed.{Owed}
use Rattle.state_rows.specs.declared.duty.Owed.TheVariants.{Sweep}
use Rattle.links.specs.Linked.{Linked, list_at, holds, with_list, pushed_back, popped_front}
use Rattle.links.proofs.Marks.{held_at}
use Rattle.cleanup.specs.Nodes.{object, duties_of}
use Rattle.links.proofs.Seen.{seen_at}
use Rattle.cleanup.proofs.Seen.{take_set, maps_same, drop_map}

-- what a node stands for
abbrev row_of : List Owed → ℕ → Owed
row_of rows node = get_or rows node (Sweep (object 0))

-- a list of the first ones, in the place of one
duties_set : (threads t : ℕ) (links : Linked) (rows : List Owed) (list : List ℕ) → t < threads
    → duties_of threads (with_list links t list) rows ≡ set (duties_of threads links rows) t (map (row_of rows) list)
duties_set threads t links rows list low =
    rw (take_set threads t links.lists list low, map-set (map (row_of rows)) (take threads links.lists) t list) refl

-- and a later one
duties_kept : (threads l : ℕ) (links : Linked) (rows : List Owed) (list : List ℕ) → threads ≤ l
    → duties_of threads (with_list links l list) rows ≡ duties_of threads links rows
duties_kept threads l links rows list high = rw take-set-le refl

pub duties_at : (threads t : ℕ) (links : Linked) (rows : List Owed) → t < threads
    → get_or (duties_of threads links rows) t [] ≡ map (row_of rows) (list_at links t)
duties_at threads t links rows low =
    seen_at (row_of rows) (take threads links.lists) t ∙ ap (map (row_of rows)) (get_or-take threads links.lists t [] low)

-- the oldest of what a thread owes is gone
pub popped_duties : (threads t : ℕ) (links : Linked) (rows : List Owed) → t < threads
    → duties_of threads (popped_front links t) rows
    ≡ set (duties_of threads links rows) t (drop 1 (get_or (duties_of threads links rows) t []))
popped_duties threads t links rows low =
    duties_set threads t links rows (drop 1 (list_at links t)) low
    ∙ ap (set (duties_of threads links rows) t)
    (drop_map (row_of rows) (list_at links t) ∙ ap (drop 1) (sym (duties_at threads t links rows low)))

-- its node goes to those that are left
pub spared_duties : (threads t node : ℕ) (links : Linked) (rows : List Owed)
    → duties_of threads (pushed_back links (threads + t) node) rows ≡ duties_of threads links rows
spared_duties threads t node links rows =
    duties_kept threads (threads + t) links rows (list_at links (threads + t) ++ node ∷ []) (omega arith)

-- and comes from there
pub spare_duties : (threads t : ℕ) (links : Linked) (rows : List Owed)
    → duties_of threads (popped_front links (threads + t)) rows ≡ duties_of threads links rows
spare_duties threads t links rows =
    duties_kept threads (threads + t) links rows (drop 1 (list_at links (threads + t))) (omega arith)

-- a node that is on no list gets a row
pub written_duties : (threads node : ℕ) (links : Linked) (rows : List Owed) (what : Owed)
    → (list_any (holds node) links.lists ≡ true → ⊥)
    → duties_of threads links (set rows node what) ≡ duties_of threads links rows
written_duties threads node links rows what unheld =
    maps_same (row_of (set rows node what)) (row_of rows) (take threads links.lists)
    (λ l k x at. get_or-set_other rows node x what (Sweep (object 0)) (λ same. held l k x at same))
  where
    held : (l k x : ℕ) → slice_get (get_or (take threads links.lists) l []) k ≡ Some x → x ≡ node → ⊥
    held l k x at same = elim (cases_lt l threads) as (λ _. ⊥) [
      | inl low ↦
          let is : slice_get (list_at links l) k ≡ Some x = rw (get_or-take threads links.lists l [] low) at at in
          unheld (rw same at (held_at links.lists l k x is))
      | inr high ↦
          let short = slice_get_within (get_or (take threads links.lists) l []) k x at in
          let none : get_or (take threads links.lists) l []
          ≡ [] = get_or_past (take threads links.lists) l [] (omega (arith, length-take threads links.lists)) in
          let absent : k < 0 = rw none at short in
          omega arith
    ]

-- and stands last in what a thread owes
pub pushed_duties : (threads t node : ℕ) (links : Linked) (rows : List Owed) (what : Owed) → t < threads
    → node < length rows → (list_any (holds node) links.lists ≡ true → ⊥)
    → duties_of threads (pushed_back links t node) (set rows node what)
    ≡ set (duties_of threads links rows) t (get_or (duties_of threads links rows) t [] ++ what ∷ [])
pushed_duties threads t node links rows what low place unheld =
    let new = set rows node what in
    let own : row_of new node ≡ what = get_or-set_same rows node what (Sweep (object 0)) place in
    let written = written_duties threads node links rows what unheld in
    let old : map (row_of new) (list_at links t) ≡ get_or (duties_of threads links rows) t [] =
    sym (duties_at threads t links new low) ∙ ap (λ (lists : List (List Owed)). get_or lists t []) written in
    let last : map (row_of new) (list_at links t ++ node ∷ [])
    ≡ get_or (duties_of threads links rows) t [] ++ what ∷ [] =
    map-append (row_of new) (list_at links t) (node ∷ []) ∙ rw (old, own) refl in
    duties_set threads t links new (list_at links t ++ node ∷ []) low ∙ rw (written, last) refl

-- a thread that has a list is known
pub known_thread : (threads t : ℕ) (links : Linked) (rows : List Owed) → t < length (duties_of threads links rows) → t < threads
known_thread threads t links rows known =
    omega (arith, length-map (take threads links.lists) (map (row_of rows)), length-take threads links.lists)

-- a node that is left comes to what a thread owes
pub owed_duties : (threads t node : ℕ) (links popped : Linked) (rows : List Owed) (what : Owed) → t < threads
    → node < length rows → popped ≡ popped_front links (threads + t) → (list_any (holds node) popped.lists ≡ true → ⊥)
    → duties_of threads (pushed_back popped t node) (set rows node what)
    ≡ set (duties_of threads links rows) t (get_or (duties_of threads links rows) t [] ++ what ∷ [])
owed_duties threads t node links popped rows what low place is unheld =
    let kept : duties_of threads popped rows ≡ duties_of threads links rows = rw is (spare_duties threads t links rows) in
    rw (← kept) (pushed_duties threads t node popped rows what low place unheld)
