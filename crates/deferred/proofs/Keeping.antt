-- What is kept of the queues stays so, and what each call leaves.
use Rattle.std.proofs.Common.{◌≡◌, ℕ, suc, ◌+◌, ◌-◌, ◌<◌, ◌≤◌, true, false, not, eqb, if◌then◌else◌, List, [], ◌∷◌, ◌++◌, length, map, set, get_or, drop, refl, sym, ap, ◌∙◌, arith, inl, inr, get_or-set_same, get_or-set_other, length-set, replicate}
use Rattle.std.specs.Prelude.{Some, All, slice_get}
use Rattle.std.specs.List.{list_any}
use Rattle.std.proofs.Math.Bool.{or-false}
use Rattle.std.proofs.lemmas.Bool.{cases_Bool, cases_eq, cases_lt, false_from_ne_true}
use Rattle.std.proofs.lemmas.List.{map-append, get_or-map}
use Rattle.std.proofs.lemmas.List.Elements.{All-get_or, All-push, All-filter}
use Rattle.std.proofs.lemmas.Option.{slice_get_within, get_or_from_slice_get}
use Rattle.sym_base.specs.Greatest.{first_of_greatest}
use Rattle.sym_base.proofs.Greatest.{is_first_of_greatest}
use Rattle.links.specs.Linked.{Linked, list_at, holds, without, with_list}
use Rattle.links.proofs.Marks.{place_of}
use Rattle.state_rows.specs.declared.deferred.DfcPlace.{DfcPlace}
use Rattle.state_rows.specs.declared.deferred.Item.{Item}
use Rattle.state_rows.specs.declared.deferred.Item.TheVariants.{Idfc, Move}
use Rattle.state_rows.specs.Deferred.{is_queued, next_of, priority_of, queue_at, queue_of}
use Rattle.state_rows.specs.DeferredChanges.{after_next_dfc}
use Rattle.deferred.specs.Kept.{AreKept, item_of, calls_of}
use Rattle.deferred.proofs.Nodes.{drop_set, drop_first, read_behind, first_stays, any_behind, item_move, item_idfc, any_move, any_idfc, no_move_past, no_list_past}
use Rattle.deferred.proofs.Order.{padded, greatest_same}

-- the lists after a node was put behind the others of one, unless it stands on some list
abbrev pub enqueued : Linked → ℕ → ℕ → Linked
enqueued links l node = record links { lists = if list_any (holds node) links.lists then links.lists else set links.lists l (list_at links l ++ node ∷ []) }

-- nothing changes where the node stood somewhere
pub enqueued_same : (links : Linked) (l node : ℕ) → not (list_any (holds node) links.lists) ≡ false → enqueued links l node ≡ links
enqueued_same links l node held =
    elim (cases_Bool (list_any (holds node) links.lists)) [
      | inl stood ↦ rw stood refl
      | inr absent ↦ let no : true ≡ false = rw absent at held in absurd (cc)
    ]

module _ (idfcs : ℕ) (places : List DfcPlace) (priorities : List ℕ) (links : Linked) (kept : AreKept idfcs places priorities links) where
  -- only deferred calls come to the lists behind the first
  pub with_list_kept : (l : ℕ) (list : List ℕ) → l < length links.lists
      → ((q : ℕ) → l ≡ suc q → All (λ node. node < length places) list)
      → AreKept idfcs places priorities (with_list links l list)
  with_list_kept l list inside own = record {
    few = kept.few;
    small = kept.small;
    nodes = kept.nodes;
    some = rw length-set kept.some;
    weights = kept.weights;
    homes = rw (length-set links.lists l list) kept.homes;
    own = λ q. elim (cases_eq (suc q) l) [
      | inl here ↦ rw (here, get_or-set_same links.lists l list [] inside) (own q (sym here))
      | inr there ↦ rw get_or-set_other (kept.own q)
    ];
  }

  pub enqueued_kept : (l node : ℕ) → l < length links.lists → ((q : ℕ) → l ≡ suc q → node < length places)
      → AreKept idfcs places priorities (enqueued links l node)
  enqueued_kept l node inside own =
      elim (cases_Bool (list_any (holds node) links.lists)) [
        | inl stood ↦ rw stood kept
        | inr absent ↦ rw absent (with_list_kept l (list_at links l ++ node ∷ []) inside (λ q is.
            All-push (λ x. x < length places) (list_at links l) node (rw (← is) at (kept.own q)) (own q is)))
      ]

  pub without_kept : (q dfc : ℕ) → suc q < length links.lists → AreKept idfcs places priorities (with_list links (suc q) (without dfc (list_at links (suc q))))
  without_kept q dfc inside =
      with_list_kept (suc q) (without dfc (list_at links (suc q))) inside (λ p is.
      All-filter (λ x. not (eqb x dfc)) (λ x. x < length places) (list_at links (suc q)) (kept.own q))

  -- a node behind those of deferred calls stands on no list but the first
  behind_absent : (node : ℕ) → length places ≤ node → list_any (holds node) (drop 1 links.lists) ≡ false
  behind_absent node high =
      elim (cases_Bool (list_any (holds node) (drop 1 links.lists))) [
        | inl held ↦
            let at = place_of (drop 1 links.lists) node held in
            let own = kept.own at.0 in
            let stands = rw (read_behind links.lists at.0) at at.3 in
            let low = All-get_or (λ x. x < length places) (list_at links (suc at.0)) at.1 node
            (slice_get_within (list_at links (suc at.0)) at.1 node stands) own in
            let is = get_or_from_slice_get (list_at links (suc at.0)) at.1 node node stands in
            absurd (omega (arith, rw is at low))
        | inr absent ↦ absent
      ]

  -- an item is queued exactly where its node stands on some list
  pub move_queued : (dfc : ℕ) → dfc < length places → is_queued (calls_of idfcs places links) (Move dfc) ≡ list_any (holds dfc) links.lists
  move_queued dfc low =
      rw (any_behind links.lists dfc, any_move (length places) dfc low (list_at links 0)) refl

  pub idfc_queued : (item node : ℕ) → node ≡ length places + item → is_queued (calls_of idfcs places links) (Idfc item) ≡ list_any (holds node) links.lists
  idfc_queued item node is =
      let high : length places ≤ node = omega arith in
      rw (any_behind links.lists node, behind_absent node high, any_idfc (length places) item node is (list_at links 0))
      (sym (or-false (holds node (list_at links 0))))

  pub node_queued : (node : ℕ) → is_queued (calls_of idfcs places links) (item_of (length places) node) ≡ list_any (holds node) links.lists
  node_queued node =
      elim (cases_lt node (length places)) [
        | inl low ↦ rw (item_move (length places) node low) (move_queued node low)
        | inr high ↦
            let is : node ≡ length places + (node - length places) = omega arith in
            rw (item_idfc (length places) (node - length places) node is) (idfc_queued (node - length places) node is)
      ]

  -- what an enqueued item leaves
  pub immediate_added : (node : ℕ) (item : Item) → item_of (length places) node ≡ item
      → calls_of idfcs places (enqueued links 0 node)
      ≡ record (calls_of idfcs places links) {
        immediate = if is_queued (calls_of idfcs places links) item then
            (calls_of idfcs places links).immediate else (calls_of idfcs places links).immediate ++ item ∷ [];
      }
  immediate_added node item is =
      let queued : is_queued (calls_of idfcs places links) item ≡ list_any (holds node) links.lists = rw is at (node_queued node) in
      elim (cases_Bool (list_any (holds node) links.lists)) [
        | inl stood ↦ rw (queued, stood) refl
        | inr absent ↦
            let some = kept.some in
            rw (
              queued,
              absent,
              get_or-set_same links.lists 0 (list_at links 0 ++ node ∷ []) [] some,
              drop_first links.lists (list_at links 0 ++ node ∷ []),
              map-append,
              is,
            ) refl
      ]

  pub own_added : (q dfc : ℕ) → dfc < length places
      → calls_of idfcs places (enqueued links (suc q) dfc)
      ≡ record (calls_of idfcs places links) {
        queues = if is_queued (calls_of idfcs places links) (Move dfc) then
            (calls_of idfcs places links).queues else set (calls_of idfcs places links).queues q
            (get_or (calls_of idfcs places links).queues q [] ++ dfc ∷ []);
      }
  own_added q dfc low =
      let queued = move_queued dfc low in
      elim (cases_Bool (list_any (holds dfc) links.lists)) [
        | inl stood ↦ rw (queued, stood) refl
        | inr absent ↦
            rw (
              queued,
              absent,
              drop_set links.lists q (list_at links (suc q) ++ dfc ∷ []),
              first_stays links.lists q (list_at links (suc q) ++ dfc ∷ []),
              read_behind links.lists q,
            ) refl
      ]

  -- the node of the greatest weight is the call that runs next
  pub next_is : (q : ℕ)
      → first_of_greatest (λ node. get_or priorities node 0) (list_at links (suc q))
      ≡ first_of_greatest (priority_of (calls_of idfcs places links)) (queue_at (calls_of idfcs places links) q)
  next_is q =
      rw (kept.weights, read_behind links.lists q)
      (greatest_same (λ node. get_or (map (λ place. place.priority) places ++ replicate idfcs 0) node 0)
      (priority_of (calls_of idfcs places links)) (λ node. padded (map (λ place. place.priority) places) idfcs node)
      (list_at links (suc q)))

  -- where a call that runs next stands
  pub record StandsIn (q dfc : ℕ) : Type 0 where
    pub place : ℕ
    pub at : slice_get (list_at links (suc q)) place ≡ Some dfc
    pub low : dfc < length places

  pub stands_in : (weight : ℕ → ℕ) (q dfc : ℕ) → first_of_greatest weight (list_at links (suc q)) ≡ Some dfc → StandsIn q dfc
  stands_in weight q dfc is =
      let first = is_first_of_greatest weight (list_at links (suc q)) dfc is in
      let inside = slice_get_within (list_at links (suc q)) first.place dfc first.at in
      record {
        place = first.place;
        at = first.at;
        low =
            rw (get_or_from_slice_get (list_at links (suc q)) first.place dfc dfc first.at) at
            (All-get_or (λ x. x < length places) (list_at links (suc q)) first.place dfc inside (kept.own q));
      }

  -- a call's queue
  pub home_of : (dfc : ℕ) (place : DfcPlace) → dfc < length places → place ≡ get_or places dfc place
      → (place.queue ≡ queue_of (calls_of idfcs places links) dfc) × (place.queue + 1 < length links.lists)
  home_of dfc place low is = (
    ap (λ (p : DfcPlace). p.queue) is ∙ sym (get_or-map (λ (p : DfcPlace). p.queue) places dfc place 0 low),
    rw (← is) at (All-get_or (λ (p : DfcPlace). p.queue + 1 < length links.lists) places dfc place low kept.homes),
  )

  -- where the call that runs next stands, and what it leaves
  pub next_stands : (q dfc : ℕ) → Some dfc ≡ next_of (calls_of idfcs places links) q → StandsIn q dfc
  next_stands q dfc is =
      stands_in (priority_of (calls_of idfcs places links)) q dfc (sym (rw (read_behind links.lists q) at is))

  pub own_taken : (q dfc : ℕ) → Some dfc ≡ next_of (calls_of idfcs places links) q
      → calls_of idfcs places (with_list links (suc q) (without dfc (list_at links (suc q))))
      ≡ after_next_dfc (calls_of idfcs places links) q
  own_taken q dfc is =
      rw (
        ← is,
        drop_set links.lists q (without dfc (list_at links (suc q))),
        first_stays links.lists q (without dfc (list_at links (suc q))),
        read_behind links.lists q,
      ) refl

  -- a call past the numbers stands in no queue
  pub past_unqueued : (dfc : ℕ) → length places ≤ dfc → is_queued (calls_of idfcs places links) (Move dfc) ≡ false
  past_unqueued dfc past =
      rw (
        no_move_past (length places) dfc past (list_at links 0),
        no_list_past (length places) dfc past (drop 1 links.lists) (λ q. rw (read_behind links.lists q) (kept.own q)),
      )
      refl

  -- and what the oldest item leaves
  pub popped_kept : AreKept idfcs places priorities (with_list links 0 (drop 1 (list_at links 0)))
  popped_kept = with_list_kept 0 (drop 1 (list_at links 0)) kept.some (λ q is. absurd (omega arith))

-- an item whose node stands on no list may be queued again
pub node_free : (idfcs : ℕ) (places : List DfcPlace) (priorities : List ℕ) (links : Linked)
    → AreKept idfcs places priorities links → (node : ℕ) → (list_any (holds node) links.lists ≡ true → ⊥)
    → is_queued (calls_of idfcs places links) (item_of (length places) node) ≡ false
node_free idfcs places priorities links kept node free =
    node_queued idfcs places priorities links kept node ∙ false_from_ne_true (list_any (holds node) links.lists) free

pub move_free : (idfcs : ℕ) (places : List DfcPlace) (priorities : List ℕ) (links : Linked)
    → AreKept idfcs places priorities links → (dfc : ℕ) → dfc < length places
    → (list_any (holds dfc) links.lists ≡ true → ⊥) → is_queued (calls_of idfcs places links) (Move dfc) ≡ false
move_free idfcs places priorities links kept dfc low free =
    move_queued idfcs places priorities links kept dfc low ∙ false_from_ne_true (list_any (holds dfc) links.lists) free
