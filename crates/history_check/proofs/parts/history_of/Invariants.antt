use Rattle.std.proofs.Common.{length}
use Rattle.history_check.proofs.InputParts.{IsPartedSo}
use Rattle.history_check.proofs.parts.history_of.Given as goal

abbrev pub invariant-loop-line : goal.invariant-loop-line
invariant-loop-line l = IsPartedSo l.fn.input l.rest

abbrev pub decreases-loop-line : goal.decreases-loop-line
decreases-loop-line l = length l.rest
