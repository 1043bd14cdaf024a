use Rattle.std.proofs.Common.{◌≡◌, drop}
use Rattle.kcore.specs.Finds.{found_in}
use Rattle.kcore.proofs.going.found_in.Given as goal

-- what is found is among the effects that are left
abbrev pub invariant-loop-effect : goal.invariant-loop-effect
invariant-loop-effect l = found_in (drop l.effect-index l.effects) ≡ found_in l.effects
