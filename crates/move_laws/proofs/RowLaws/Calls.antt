-- The rows of deferred function calls, where they change.
use Rattle.std.proofs.Common.{◌≡◌, ℕ, Bool, true, false, List, [], ◌∷◌, ◌++◌, length, set, refl, ◌∙◌}
use Rattle.std.specs.List.{AllByRecursion}
use Rattle.std.specs.Prelude.{drop, if◌then◌else◌}
use Rattle.std.proofs.lemmas.List.{length-set}
use Rattle.script_types.specs.declared.script.Script.{Script}
use Rattle.state_rows.specs.Deferred.{is_queued, IsKnown}
use Rattle.state_rows.specs.declared.deferred.DeferredRows.{DeferredRows}
use Rattle.state_rows.specs.declared.deferred.Item.{Item}
use Rattle.state_rows.specs.declared.deferred.Item.TheVariants as item
use Rattle.machine.specs.declared.deferred_move.DeferredMove.{DeferredMove}
use Rattle.machine.specs.declared.deferred_move.DeferredMove.TheVariants.{AddImmediate, AddFromInterrupt, Add, TakeImmediate, Take}
use Rattle.machine.specs.DeferredMoves.{deferred_moved}
use Rattle.machine.specs.Fits.{FitsDeferred}
use Rattle.machine.specs.WellFormed.{AreCalls}

-- other items in the immediate queue
calls-immediate : (script : Script) (r : DeferredRows) (items : List Item) → AllByRecursion (IsKnown r) items
    → AreCalls script r → AreCalls script (record r { immediate = items })
calls-immediate script r items known h = record { idfcs = h.idfcs; places = h.places; queues = h.queues; known = known }

-- other calls in as many queues
calls-queues : (script : Script) (r : DeferredRows) (queues : List (List ℕ)) → length queues ≡ length r.queues
    → AreCalls script r → AreCalls script (record r { queues = queues })
calls-queues script r queues long h = record { idfcs = h.idfcs; places = h.places; queues = long ∙ h.queues; known = h.known }

all-push : {A : Type 0} (P : A → Type 0) (xs : List A) (x : A) → P x → AllByRecursion P xs → AllByRecursion P (xs ++ x ∷ [])
all-push P [] x p all = (p, tt)
all-push P (y ∷ ys) x p all = (all.0, all-push P ys x p all.1)

all-if_push : {A : Type 0} (P : A → Type 0) (queued : Bool) (xs : List A) (x : A) → P x → AllByRecursion P xs
    → AllByRecursion P (if queued then xs else xs ++ x ∷ [])
all-if_push P true xs x p all = all
all-if_push P false xs x p all = all-push P xs x p all

all-drop : {A : Type 0} (P : A → Type 0) (xs : List A) → AllByRecursion P xs → AllByRecursion P (drop 1 xs)
all-drop P [] all = tt
all-drop P (x ∷ xs) all = all.1

length-if_set : {A : Type 0} (queued : Bool) (xs : List A) (i : ℕ) (x : A) → length (if queued then xs else set xs i x) ≡ length xs
length-if_set true xs i x = refl
length-if_set false xs i x = length-set xs i x

-- a move that fits keeps them
pub calls-moved : (script : Script) (m : DeferredMove) (r : DeferredRows) → FitsDeferred m r → AreCalls script r → AreCalls script (deferred_moved m r)
calls-moved script (AddImmediate call) r fits h =
    calls-immediate script r _ (all-if_push (IsKnown r) (is_queued r (item.Idfc call)) r.immediate
    (item.Idfc call) fits h.known) h
calls-moved script (AddFromInterrupt dfc) r fits h =
    calls-immediate script r _ (all-if_push (IsKnown r) (is_queued r (item.Move dfc)) r.immediate
    (item.Move dfc) fits h.known) h
calls-moved script (Add dfc queue) r fits h = calls-queues script r _ (length-if_set (is_queued r (item.Move dfc)) r.queues _ _) h
calls-moved script TakeImmediate r fits h = calls-immediate script r _ (all-drop (IsKnown r) r.immediate h.known) h
calls-moved script (Take queue) r fits h = calls-queues script r _ (length-set r.queues queue _) h
