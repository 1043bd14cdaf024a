use Rattle.std.proofs.Common.{append_assoc}
use Rattle.entry_log.proofs.Joins.{joined_two}
use Rattle.entry_log.proofs.text.steps.put_of.Goals as goal

pub returns-clause-text : goal.returns-clause-text
returns-clause-text c = simp (joined_two, append_assoc, c.put_part.ensures.text, c.put_short.ensures)
