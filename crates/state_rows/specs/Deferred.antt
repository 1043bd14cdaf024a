-- Reading the rows of deferred function calls.
use Rattle.std.specs.Prelude.{ℕ, ◌<◌, Bool, false, ◌==◌, ◌||◌, List, [], Option, length, map, slice_get, slice_index_or}
use Rattle.std.specs.List.{list_any}
use Rattle.sym_base.specs.Greatest.{first_of_greatest}
use Rattle.state_rows.specs.declared.deferred.DeferredRows.{DeferredRows}
use Rattle.state_rows.specs.declared.deferred.Item.{Item}
use Rattle.state_rows.specs.declared.deferred.Item.TheVariants.{Idfc, Move}

-- the calls that stand in a queue
abbrev pub queue_at : DeferredRows → ℕ → List ℕ
queue_at r queue = slice_index_or r.queues queue []

-- the queue of a deferred function call
abbrev pub queue_of : DeferredRows → ℕ → ℕ
queue_of r dfc = slice_index_or (map (λ place. place.queue) r.places) dfc 0

-- the priority of a deferred function call in its queue
abbrev pub priority_of : DeferredRows → ℕ → ℕ
priority_of r dfc = slice_index_or (map (λ place. place.priority) r.places) dfc 0

-- the call of a queue that runs next: of those of the greatest priority the first
abbrev pub next_of : DeferredRows → ℕ → Option ℕ
next_of r queue = first_of_greatest (priority_of r) (queue_at r queue)

-- the item of the immediate queue that comes next: the oldest
abbrev pub next_immediate : DeferredRows → Option Item
next_immediate r = slice_get r.immediate 0

-- whether a list of calls holds one
abbrev pub holds : ℕ → List ℕ → Bool
holds dfc calls = list_any (λ other. other == dfc) calls

-- whether two items are the same
abbrev pub is_same : Item → Item → Bool
is_same (Idfc one) (Idfc other) = other == one
is_same (Idfc one) (Move other) = false
is_same (Move one) (Idfc other) = false
is_same (Move one) (Move other) = other == one

-- whether an item stands in a queue: an immediate call in the immediate one, a deferred call there or in one of the others
abbrev pub is_queued : DeferredRows → Item → Bool
is_queued r (Idfc item) = list_any (is_same (Idfc item)) r.immediate
is_queued r (Move dfc) = list_any (is_same (Move dfc)) r.immediate || list_any (holds dfc) r.queues

-- the queues are made for the item
abbrev pub IsKnown : DeferredRows → Item → Type 0
IsKnown r (Idfc item) = item < r.idfcs
IsKnown r (Move dfc) = dfc < length r.places
