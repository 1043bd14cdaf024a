use Rattle.std.proofs.Common.{◌≡◌, ◌≤◌, ◌+◌, ◌++◌, length, map, replicate, take, vec_capacity}
use Rattle.deferred.proofs.queues.priorities.Given as goal

abbrev pub invariant-loop-place : goal.invariant-loop-place
invariant-loop-place l =
    (l.priorities.items ≡ map (λ place. place.priority) (take l.place-index l.places))
    × (length l.places + l.idfcs ≤ vec_capacity l.priorities)

abbrev pub invariant-loop-idfc : goal.invariant-loop-idfc
invariant-loop-idfc l =
    (l.priorities.items ≡ map (λ place. place.priority) l.places ++ replicate l._idfc 0)
    × (length l.places + l.idfcs ≤ vec_capacity l.priorities)
