use Rattle.std.proofs.Common.{append_assoc, append-nil, sym, arith}
use Rattle.std.proofs.lemmas.Grind.{common_steps}
use Rattle.entry_log.specs.Joined.{preceded}
use Rattle.entry_log.specs.EffectText.{effect_text}
use Rattle.entry_log.specs.declared.effect.Effect.TheVariants.{Plus}
use Rattle.entry_log.specs.declared.effect.Holder.TheVariants.{InProcess}
use Rattle.entry_log.proofs.Joins.{preceded_more}
use Rattle.entry_log.proofs.text.effects.put_effects.Goals as goal

pub loop-effect-init : goal.loop-effect-init
unfolding preceded
loop-effect-init c = (sym (append-nil _), omega arith)

pub loop-effect-preserved : goal.loop-effect-preserved
loop-effect-preserved c = (
  rw (preceded_more 32 effect_text c.args.effects.now c.loop-effect.effect-index
      (Plus (InProcess (record { 0 = 0 }) 0) (record { 0 = 0 })) c.loop-effect-test.true)
      (simp (append_assoc, c.put_effect.ensures.text, c.put_byte.ensures, c.loop-effect.invariant.0)),
  grind (arith, common_steps),
)
