use Rattle.std.proofs.Common.{append_assoc}
use Rattle.entry_log.proofs.Joins.{joined_two}
use Rattle.entry_log.proofs.text.effects.put_numbered.Goals as goal

pub returns-clause-text : goal.returns-clause-text
returns-clause-text g c = simp (joined_two, append_assoc, c.put_u32.ensures.text, c.put_byte.ensures, c.put_letters.ensures)
