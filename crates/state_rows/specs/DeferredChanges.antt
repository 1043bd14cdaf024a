-- How the rows of deferred function calls change, one equation a change.
use Rattle.std.specs.Prelude.{ℕ, ◌+◌, ◌-◌, not, ◌==◌, if◌then◌else◌, filter, List, [], ◌∷◌, ◌++◌, Option, Some, None, drop, fold, length, replicate, slice_set}
use Rattle.state_rows.specs.declared.deferred.DeferredRows.{DeferredRows}
use Rattle.state_rows.specs.declared.deferred.DfcPlace.{DfcPlace}
use Rattle.state_rows.specs.declared.deferred.Item.{Item}
use Rattle.state_rows.specs.declared.deferred.Item.TheVariants.{Idfc, Move}
use Rattle.state_rows.specs.Deferred.{is_queued, next_of, queue_at, queue_of}

-- the burial of a thread is a call of the supervisor's queue, at the greatest priority
abbrev pub burial : DfcPlace
burial = record { queue = 0; priority = 7 }

-- the number of the first burial: calls 0 to 63 are the declared ones, in their order
abbrev pub first_burial : ℕ
first_burial = 64

-- The declared calls have the first numbers, and all others are places of burials. Those of the threads have the
-- numbers from the first burial's on; a lower number that no declared call has is used by none.
abbrev pub places_of : List DfcPlace → ℕ → List DfcPlace
places_of dfcs burials = dfcs ++ replicate (first_burial + burials - length dfcs) burial

-- nothing is queued
abbrev pub new_calls : ℕ → ℕ → List DfcPlace → ℕ → DeferredRows
new_calls queues idfcs dfcs burials = record { idfcs = idfcs; places = places_of dfcs burials; immediate = []; queues = replicate queues [] }

-- the immediate call stands last, unless it is queued already
abbrev pub after_add_idfc : DeferredRows → ℕ → DeferredRows
after_add_idfc r item = record r { immediate = if is_queued r (Idfc item) then r.immediate else r.immediate ++ Idfc item ∷ [] }

-- the deferred call stands last among the items of the immediate queue, to be moved, unless it is queued already
abbrev pub after_add_from_irq : DeferredRows → ℕ → DeferredRows
after_add_from_irq r dfc = record r { immediate = if is_queued r (Move dfc) then r.immediate else r.immediate ++ Move dfc ∷ [] }

-- an item joins the immediate queue, and items do so one after the other
abbrev pub after_item : DeferredRows → Item → DeferredRows
after_item r (Idfc item) = after_add_idfc r item
after_item r (Move dfc) = after_add_from_irq r dfc

abbrev pub after_items : DeferredRows → List Item → DeferredRows
after_items r items = fold after_item r items

-- the deferred call stands last in its queue, unless it is queued already
abbrev pub after_add : DeferredRows → ℕ → DeferredRows
after_add r dfc = record r {
  queues =
      if is_queued r (Move dfc) then r.queues else slice_set r.queues (queue_of r dfc)
      (queue_at r (queue_of r dfc) ++ dfc ∷ []);
}

-- the oldest item is gone from the immediate queue
abbrev pub after_next_idfc : DeferredRows → DeferredRows
after_next_idfc r = record r { immediate = drop 1 r.immediate }

-- a list of calls without one
abbrev pub without : ℕ → List ℕ → List ℕ
without dfc calls = filter (λ other. not (other == dfc)) calls

-- a queue without a call, where there is one
abbrev pub left : Option ℕ → List ℕ → List ℕ
left None queue = queue
left (Some dfc) queue = without dfc queue

-- the call that runs next is gone from its queue
abbrev pub after_next_dfc : DeferredRows → ℕ → DeferredRows
after_next_dfc r queue = record r { queues = slice_set r.queues queue (left (next_of r queue) (queue_at r queue)) }
