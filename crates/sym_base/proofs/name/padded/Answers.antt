use Rattle.sym_base.proofs.Words.{word_is_padded}
use Rattle.sym_base.proofs.name.padded.Goals as goal

pub invariant_of-result : goal.invariant_of-result
invariant_of-result c = rw c.copy_from_slice.ensures.after (word_is_padded _ c.requires.short c.requires.text)
