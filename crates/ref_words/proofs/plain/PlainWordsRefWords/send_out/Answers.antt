use Rattle.std.proofs.Common.{sym, subst, ◌<◌, ◌^◌, length, arith}
use Rattle.ref_words.specs.Words.{Words, own_at, IsCreated}
use Rattle.ref_words.proofs.Soundness.{sound_sent}
use Rattle.ref_words.proofs.plain.PlainWordsRefWords.send_out.Goals as goal

pub invariant_of-self : goal.invariant_of-self
invariant_of-self c =
    let made = subst (λ (w : Words). IsCreated w c.args.place) (sym c.self.view_is) c.requires.created in
    let small = subst (λ (w : Words). own_at w c.args.place < 2 ^ 31) (sym c.self.view_is) c.requires.small in
    let few = subst (λ (w : Words). length w.out < 64) (sym c.self.view_is) c.requires.few_out in
    rw c.push_reserved.ensures.items (sound_sent _ _ c.self.invariant.0 made small few, omega (arith, c.self.invariant.1))
