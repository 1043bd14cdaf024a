use Rattle.std.proofs.Common.{◌≡◌, ◌+◌, ◌*◌, ◌≤◌, ◌++◌, length, map, take}
use Rattle.entry_log.specs.EffectText.{effect_text}
use Rattle.entry_log.specs.Joined.{preceded}
use Rattle.entry_log.proofs.text.effects.put_effects.Given as goal

abbrev pub invariant-loop-effect : goal.invariant-loop-effect
invariant-loop-effect l =
    (l.line.items ≡ l.initial.line.items ++ preceded 32 (map effect_text (take l.effect-index l.effects)))
    × (length l.line.items ≤ length l.initial.line.items + 34 * l.effect-index)
