use Rattle.std.proofs.Common.{◌≡◌, drop}
use Rattle.machine.specs.Holdings.{first_used}
use Rattle.plain_reads.proofs.holdings.first_used.Given as goal

abbrev pub invariant-loop-index : goal.invariant-loop-index
invariant-loop-index l = first_used l.index (drop l.index l.slots) ≡ first_used 0 l.slots
