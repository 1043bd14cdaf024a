use Rattle.std.proofs.Common.{◌≡◌, ◌++◌, map, take, drop}
use Rattle.state_rows.specs.RequestChanges.{without}
use Rattle.requests.proofs.drops.drop_requests.Given as goal

abbrev pub invariant-loop-slot : goal.invariant-loop-slot
invariant-loop-slot l = l.devices ≡ map (without l.t) (take l.slot-index l.initial.devices) ++ drop l.slot-index l.initial.devices
