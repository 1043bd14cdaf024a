use Rattle.std.proofs.Common.{arith, refl}
use Rattle.sym_base.proofs.FirstBytes.{by_first, nothing_begins}
use Rattle.sym_base.proofs.word.Word.of.Goals as goal

pub returns-in-empty : goal.returns-in-empty
returns-in-empty c = let none = c.in-empty.len_below in nothing_begins c.args.text.now (omega arith)

pub returns-in-len1-up : goal.returns-in-len1-up
returns-in-len1-up c =
    let some = c.in-len1-up.len_at_least in
    by_first c.args.text.now _ (omega arith) refl c.word_with.ensures
