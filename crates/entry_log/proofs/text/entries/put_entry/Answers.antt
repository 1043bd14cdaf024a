use Rattle.std.proofs.Common.{append_assoc}
use Rattle.entry_log.proofs.EntryParts.{line_in_two}
use Rattle.entry_log.proofs.text.entries.put_entry.Goals as goal

pub returns-clause-text : goal.returns-clause-text
returns-clause-text c = simp (line_in_two, append_assoc, c.put_behind.ensures.text, c.put_u32.ensures.text)
