use Rattle.std.proofs.Common.{◌≡◌, ◌++◌, drop, filter}
use Rattle.machine.specs.Task.{is_ready}
use Rattle.plain_machine.proofs.arrivals.still_ready.Given as goal

abbrev pub invariant-loop-thread : goal.invariant-loop-thread
invariant-loop-thread l = l.ready.items ++ filter (is_ready l.script l.state) (drop l.thread-index l.list) ≡ filter (is_ready l.script l.state) l.list
