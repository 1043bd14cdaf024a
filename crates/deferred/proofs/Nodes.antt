-- Nodes and the items that they stand for, and the lists behind the first.
use Rattle.std.proofs.Common.{◌≡◌, ℕ, suc, ◌+◌, ◌-◌, ◌<◌, ◌≤◌, Bool, false, eqb, ltb, List, [], ◌∷◌, map, set, get_or, drop, refl, ap, arith, inl, inr, eq-eqb}
use Rattle.std.specs.Prelude.{◌||◌, All}
use Rattle.std.specs.List.{list_any}
use Rattle.std.proofs.lemmas.Bool.{cases_Bool, cases_eq, lt-ltb, ltb-false, ltb-true, ne_eqb}
use Rattle.std.proofs.lemmas.List.Elements.{All-head, All-tail}
use Rattle.links.specs.Linked.{holds}
use Rattle.state_rows.specs.declared.deferred.Item.{Item}
use Rattle.state_rows.specs.declared.deferred.Item.TheVariants.{Idfc, Move}
use Rattle.state_rows.specs.Deferred.{is_same}
use Rattle.deferred.specs.Kept.{item_of}

-- another list behind the first is another among those behind it
pub drop_set : (lists : List (List ℕ)) (q : ℕ) (list : List ℕ) → drop 1 (set lists (suc q) list) ≡ set (drop 1 lists) q list
drop_set [] q list = refl
drop_set (first ∷ lists) q list = refl

pub drop_first : (lists : List (List ℕ)) (list : List ℕ) → drop 1 (set lists 0 list) ≡ drop 1 lists
drop_first [] list = refl
drop_first (first ∷ lists) list = refl

pub read_behind : (lists : List (List ℕ)) (q : ℕ) → get_or (drop 1 lists) q [] ≡ get_or lists (suc q) []
read_behind [] q = refl
read_behind (first ∷ lists) q = refl

pub first_stays : (lists : List (List ℕ)) (q : ℕ) (list : List ℕ) → get_or (set lists (suc q) list) 0 [] ≡ get_or lists 0 []
first_stays [] q list = refl
first_stays (first ∷ lists) q list = refl

-- a node stands on a list where it stands on the first or on one behind it
pub any_behind : (lists : List (List ℕ)) (node : ℕ) → list_any (holds node) lists ≡ (holds node (get_or lists 0 []) || list_any (holds node) (drop 1 lists))
any_behind [] node = refl
any_behind (first ∷ lists) node = refl

-- a node of a deferred call stands for its move, and a node behind them for an immediate call
pub item_move : (calls node : ℕ) → node < calls → item_of calls node ≡ Move node
item_move calls node low = rw (lt-ltb node calls low) refl

pub ge-ltb : (m n : ℕ) → n ≤ m → ltb m n ≡ false
ge-ltb m n high = elim (cases_Bool (ltb m n)) [ inl low ↦ absurd (omega (arith, ltb-true m n low)) | inr not ↦ not ]

pub item_idfc : (calls item node : ℕ) → node ≡ calls + item → item_of calls node ≡ Idfc item
item_idfc calls item node is = rw (ge-ltb node calls (omega arith)) (ap Idfc (omega arith))

-- a test of the item is that of the node
same_move : (calls d x : ℕ) → d < calls → is_same (Move d) (item_of calls x) ≡ eqb x d
same_move calls d x low =
    elim (cases_Bool (ltb x calls)) [
      | inl below ↦ rw below refl
      | inr above ↦ rw (above, ne_eqb x d (λ e. omega (arith, ltb-false x calls above))) refl
    ]

same_idfc : (calls item node x : ℕ) → node ≡ calls + item → is_same (Idfc item) (item_of calls x) ≡ eqb x node
same_idfc calls item node x at =
    elim (cases_Bool (ltb x calls)) [
      | inl below ↦ rw (below, ne_eqb x node (λ e. omega (arith, ltb-true x calls below))) refl
      | inr above ↦ rw above (elim (cases_eq x node) [
        | inl is ↦ rw (eq-eqb (x - calls) item (omega (arith, is)), eq-eqb x node is) refl
        | inr other ↦ rw (ne_eqb (x - calls) item (λ e. other (omega (arith, e, ltb-false x calls above))), ne_eqb x node other) refl
      ])
    ]

any_same : (p : Item → Bool) (calls : ℕ) (q : ℕ → Bool) → ((x : ℕ) → p (item_of calls x) ≡ q x) → (xs : List ℕ)
    → list_any p (map (item_of calls) xs) ≡ list_any q xs
any_same p calls q same [] = refl
any_same p calls q same (x ∷ xs) = rw (same x, any_same p calls q same xs) refl

pub any_move : (calls d : ℕ) → d < calls → (xs : List ℕ) → list_any (is_same (Move d)) (map (item_of calls) xs) ≡ holds d xs
any_move calls d low xs = any_same (is_same (Move d)) calls (λ x. eqb x d) (λ x. same_move calls d x low) xs

pub any_idfc : (calls item node : ℕ) → node ≡ calls + item → (xs : List ℕ) → list_any (is_same (Idfc item)) (map (item_of calls) xs) ≡ holds node xs
any_idfc calls item node at xs = any_same (is_same (Idfc item)) calls (λ x. eqb x node) (λ x. same_idfc calls item node x at) xs

-- no item is the move of a call past the numbers, and no list of calls below them holds it
pub no_move_past : (calls d : ℕ) → calls ≤ d → (xs : List ℕ) → list_any (is_same (Move d)) (map (item_of calls) xs) ≡ false
no_move_past calls d past [] = refl
no_move_past calls d past (x ∷ xs) =
    rw (no_move_past calls d past xs) (elim (cases_Bool (ltb x calls)) [
      | inl below ↦ rw (below, ne_eqb x d (λ e. omega (arith, ltb-true x calls below))) refl
      | inr above ↦ rw above refl
    ])

none_holds : (calls d : ℕ) → calls ≤ d → (list : List ℕ) → All (λ node. node < calls) list → holds d list ≡ false
none_holds calls d past [] low = refl
none_holds calls d past (x ∷ xs) low =
    let P : ℕ → Type 0 = λ node. node < calls in
    let first = All-head P x xs low in
    rw (ne_eqb x d (λ e. omega (arith, first)), none_holds calls d past xs (All-tail P x xs low)) refl

pub no_list_past : (calls d : ℕ) → calls ≤ d → (lists : List (List ℕ))
    → ((q : ℕ) → All (λ node. node < calls) (get_or lists q [])) → list_any (holds d) lists ≡ false
no_list_past calls d past [] low = refl
no_list_past calls d past (list ∷ lists) low = rw (none_holds calls d past list (low 0), no_list_past calls d past lists (λ q. low (suc q))) refl
