use Rattle.std.proofs.Common.{sym, subst}
use Rattle.ref_words.specs.Words.{Words, IsFresh}
use Rattle.ref_words.proofs.Soundness.{sound_created}
use Rattle.ref_words.proofs.plain.PlainWordsRefWords.create.Goals as goal

pub invariant_of-self : goal.invariant_of-self
invariant_of-self c =
    let fresh = subst (λ (w : Words). IsFresh w c.args.place) (sym c.self.view_is) c.requires in
    (sound_created _ _ c.self.invariant.0 fresh, c.self.invariant.1)
