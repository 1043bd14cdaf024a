-- How linked lists stand for the queues: list 0 is the immediate queue, and each other queue is the list behind its
-- number. The nodes are the numbers of deferred calls, and behind them the immediate calls.
use Rattle.std.specs.Prelude.{◌≡◌, ℕ, suc, ◌+◌, ◌-◌, ◌^◌, ◌<◌, ◌≤◌, nat_lt, if◌then◌else◌, List, ◌++◌, All, drop, length, map, replicate}
use Rattle.links.specs.Linked.{Linked, list_at}
use Rattle.state_rows.specs.declared.deferred.DfcPlace.{DfcPlace}
use Rattle.state_rows.specs.declared.deferred.Item.{Item}
use Rattle.state_rows.specs.declared.deferred.Item.TheVariants.{Idfc, Move}
use Rattle.state_rows.specs.declared.deferred.DeferredRows.{DeferredRows}

-- the item that a node stands for, where so many numbers are those of deferred calls
abbrev pub item_of : ℕ → ℕ → Item
item_of calls node = if nat_lt node calls then Move node else Idfc (node - calls)

-- the queues that the lists stand for
abbrev pub calls_of : ℕ → List DfcPlace → Linked → DeferredRows
calls_of idfcs places links = record {
  idfcs = idfcs;
  places = places;
  immediate = map (item_of (length places)) (list_at links 0);
  queues = drop 1 links.lists;
}

-- the queue of each call has a list, only deferred calls stand in those lists, and each node has its priority
pub record AreKept (idfcs : ℕ) (places : List DfcPlace) (priorities : List ℕ) (links : Linked) : Type 0 where
  pub few : length places ≤ 128
  pub small : idfcs < 2 ^ 8
  pub nodes : links.nodes ≡ length places + idfcs
  pub some : 0 < length links.lists
  pub weights : priorities ≡ map (λ place. place.priority) places ++ replicate idfcs 0
  pub homes : All (λ place. place.queue + 1 < length links.lists) places
  pub own : (queue : ℕ) → All (λ node. node < length places) (list_at links (suc queue))
