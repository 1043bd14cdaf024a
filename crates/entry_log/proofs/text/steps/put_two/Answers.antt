use Rattle.std.proofs.Common.{append_assoc}
use Rattle.entry_log.proofs.Joins.{joined_two}
use Rattle.entry_log.proofs.text.steps.put_two.Goals as goal

pub returns-clause-text : goal.returns-clause-text
returns-clause-text c = simp (joined_two, append_assoc, c.put-2.ensures, c.put_byte.ensures, c.put.ensures)
