use Rattle.std.proofs.Common.{◌≡◌, ◌++◌, ◌-◌, length, map, replicate}
use Rattle.state_rows.specs.DeclaredCalls.{place_of}
use Rattle.state_rows.specs.DeferredChanges.{burial}
use Rattle.state_rows.proofs.declared_calls.all_places.Given as goal

abbrev pub invariant-loop-number : goal.invariant-loop-number
invariant-loop-number l = l.places.items ≡ map (place_of l.script) l.script.dfcs ++ replicate (l._number - length l.script.dfcs) burial
