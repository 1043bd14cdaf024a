use Rattle.std.proofs.Common.{◌≡◌, ◌+◌, ◌<◌, All, length, map, take}
use Rattle.state_rows.specs.DeclaredCalls.{place_of}
use Rattle.state_rows.proofs.declared_calls.declared_places.Given as goal

abbrev pub invariant-loop-declared : goal.invariant-loop-declared
invariant-loop-declared l = record {
  places : l.places.items ≡ map (place_of l.script) (take l.declared-index l.script.dfcs);
  known : All (λ place. place.queue < 1 + length l.script.queues) l.places.items;
}
