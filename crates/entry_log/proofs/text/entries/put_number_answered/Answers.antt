use Rattle.std.proofs.Common.{append_assoc, append-nil, w32, rules, FitsSigned}
use Rattle.std.proofs.Math.Facts.{to_z-of_z}
use Rattle.entry_log.specs.EntryLine.{answer_words}
use Rattle.entry_log.specs.Joined.{preceded}
use Rattle.entry_log.proofs.text.entries.put_number_answered.Goals as goal

pub returns-clause-text : goal.returns-clause-text
unfolding answer_words preceded
returns-clause-text c =
    let fits : FitsSigned w32 c.args.number = search rules in
    simp (append_assoc, append-nil, to_z-of_z fits, c.put_code.ensures.text, c.put_letters.ensures)
