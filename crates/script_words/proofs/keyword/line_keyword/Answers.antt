use Rattle.std.proofs.Common.{arith, refl}
use Rattle.script_words.proofs.Keywords.{nothing_begins}
use Rattle.script_words.proofs.keyword.line_keyword.Goals as goal
use Rattle.sym_base.proofs.FirstBytes.{by_first}

pub returns-in-empty : goal.returns-in-empty
returns-in-empty c = let none = c.in-empty.len_below in nothing_begins c.args.word.now (omega arith)

pub returns-in-len1-up : goal.returns-in-len1-up
returns-in-len1-up c =
    let some = c.in-len1-up.len_at_least in
    by_first c.args.word.now _ (omega arith) refl c.line_keyword_with.ensures
