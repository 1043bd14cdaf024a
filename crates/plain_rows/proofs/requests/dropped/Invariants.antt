use Rattle.std.proofs.Common.{◌≡◌, ◌++◌, drop, map}
use Rattle.state_rows.specs.RequestChanges.{without}
use Rattle.plain_rows.proofs.requests.dropped.Given as goal

abbrev pub invariant-loop-request : goal.invariant-loop-request
invariant-loop-request l = l.left.items ++ map (without l.thread) (drop l.request-index l.devices) ≡ map (without l.thread) l.devices
