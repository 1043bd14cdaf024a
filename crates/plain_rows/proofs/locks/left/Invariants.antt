use Rattle.std.proofs.Common.{◌≡◌, ◌++◌, drop, map}
use Rattle.state_rows.specs.Locks.{without}
use Rattle.plain_rows.proofs.locks.left.Given as goal

abbrev pub invariant-loop-queue : goal.invariant-loop-queue
invariant-loop-queue l = l.left.items ++ map (without l.thread) (drop l.queue-index l.waiters) ≡ map (without l.thread) l.waiters
