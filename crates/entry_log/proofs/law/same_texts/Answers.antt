use Rattle.entry_log.proofs.SameHistories.{same_histories}
use Rattle.entry_log.proofs.law.same_texts.Goals as goal

pub returns : goal.returns
returns c = same_histories _ _ c.known_entries.ensures c.known_entries-2.ensures
