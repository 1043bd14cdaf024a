use Rattle.std.proofs.Common.{◌≡◌, ◌++◌, ◌-◌, length, replicate}
use Rattle.state_rows.specs.DeferredChanges.{burial}
use Rattle.deferred.proofs.queues.all_places.Given as goal

abbrev pub invariant-loop-number : goal.invariant-loop-number
invariant-loop-number l = l.places.items ≡ l.dfcs ++ replicate (l._number - length l.dfcs) burial
