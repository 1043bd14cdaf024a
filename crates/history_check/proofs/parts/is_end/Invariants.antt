use Rattle.std.proofs.Common.{◌≡◌, length}
use Rattle.history_check.specs.InputParts.{is_end}
use Rattle.history_check.proofs.parts.is_end.Given as goal

-- no word stands before the rest
abbrev pub invariant-loop-word : goal.invariant-loop-word
invariant-loop-word l = is_end l.rest ≡ is_end l.fn.line

abbrev pub decreases-loop-word : goal.decreases-loop-word
decreases-loop-word l = length l.rest
