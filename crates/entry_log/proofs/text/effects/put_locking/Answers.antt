use Rattle.std.proofs.Common.{append_assoc}
use Rattle.entry_log.proofs.Joins.{joined_three}
use Rattle.entry_log.proofs.text.effects.put_locking.Goals as goal

pub returns-clause-text : goal.returns-clause-text
returns-clause-text g c = simp (joined_three, append_assoc, c.put_lock.ensures.text, c.put_byte.ensures, c.put_numbered.ensures.text)
