use Rattle.std.proofs.Common.{◌≡◌, take}
use Rattle.plain_machine.proofs.stepped.copied_effects.Given as goal

abbrev pub invariant-loop-effect : goal.invariant-loop-effect
invariant-loop-effect l = l.copy ≡ take l.effect-index l.effects
