use Rattle.std.proofs.Common.{◌≡◌, length}
use Rattle.history_check.specs.DeathText.{tells_death}
use Rattle.history_check.proofs.actor.tells_death.Given as goal

-- no word so far tells a death
abbrev pub invariant-loop-word : goal.invariant-loop-word
invariant-loop-word l = tells_death l.rest ≡ tells_death l.fn.line

abbrev pub decreases-loop-word : goal.decreases-loop-word
decreases-loop-word l = length l.rest
