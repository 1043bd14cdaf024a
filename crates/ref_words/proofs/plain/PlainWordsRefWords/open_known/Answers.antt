use Rattle.std.proofs.Common.{sym, subst, ◌<◌, ◌^◌}
use Rattle.std.proofs.lemmas.List.{get_or_read}
use Rattle.ref_words.specs.Words.{Words, own_at}
use Rattle.ref_words.proofs.Soundness.{sound_opened, known_placed}
use Rattle.ref_words.proofs.plain.PlainWordsRefWords.open_known.Goals as goal

pub invariant_of-self : goal.invariant_of-self
invariant_of-self c =
    let known = subst (λ (w : Words). 0 < own_at w c.args.place) (sym c.self.view_is) c.requires.known in
    let small = subst (λ (w : Words). own_at w c.args.place < 2 ^ 31) (sym c.self.view_is) c.requires.small in
    let read = get_or_read c.self.inside.counts.items c.args.place _ (known_placed c.self.inside.counts.items c.args.place known) c.index_mut.ensures.value 0 in
    rw read (sound_opened _ _ c.self.invariant.0 known small, c.self.invariant.1)
