use Rattle.std.proofs.Common.{◌≡◌, drop}
use Rattle.handles.specs.Used.{first_used, next_used}
use Rattle.handles.proofs.used.next_used.Given as goal

abbrev pub invariant-loop-index : goal.invariant-loop-index
invariant-loop-index l = next_used l.slots l.from ≡ first_used l.index (drop l.index l.slots)
