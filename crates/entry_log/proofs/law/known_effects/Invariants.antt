use Rattle.std.proofs.Common.{ℕ, ◌<◌, slice_index_or}
use Rattle.entry_log.specs.IsEntry.{IsEffect}
use Rattle.entry_log.specs.declared.effect.Effect.{Effect}
use Rattle.entry_log.proofs.law.known_effects.Given as goal

abbrev pub invariant-loop-effect : goal.invariant-loop-effect
invariant-loop-effect l = (k : ℕ) (d : Effect) → k < l.effect-index → IsEffect (slice_index_or l.effects k d)
