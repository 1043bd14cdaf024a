use Rattle.std.proofs.Common.{◌≡◌, ◌++◌, drop}
use Rattle.machine.specs.Arrivals.{unlisted}
use Rattle.plain_rows.proofs.lists.unlisted.Given as goal

abbrev pub invariant-loop-other : goal.invariant-loop-other
invariant-loop-other l = l.rest.items ++ unlisted l.thread (drop l.other-index l.list) ≡ unlisted l.thread l.list
