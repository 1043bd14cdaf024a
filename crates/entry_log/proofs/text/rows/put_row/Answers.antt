use Rattle.std.proofs.Common.{append_assoc}
use Rattle.entry_log.specs.FinalLine.{final_line, final_words}
use Rattle.entry_log.proofs.Joins.{joined_row}
use Rattle.entry_log.proofs.text.rows.put_row.Goals as goal

pub returns-clause-text : goal.returns-clause-text
unfolding final_line final_words
returns-clause-text c = simp (joined_row, append_assoc, c.put.ensures, c.put_life.ensures.text, c.put_head.ensures.text)
