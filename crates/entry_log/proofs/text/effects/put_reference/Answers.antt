use Rattle.std.proofs.Common.{append_assoc}
use Rattle.entry_log.proofs.Joins.{joined_two}
use Rattle.entry_log.proofs.text.effects.put_reference.Goals as goal

pub returns-clause-text : goal.returns-clause-text
returns-clause-text c = simp (joined_two, append_assoc, c.put_u16.ensures.text, c.put_byte-2.ensures, c.put_holder.ensures.text, c.put_byte.ensures)
