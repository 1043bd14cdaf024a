use Rattle.std.proofs.Common.{ℕ, ◌<◌, slice_index_or}
use Rattle.entry_log.specs.IsEntry.{IsEntry}
use Rattle.entry_log.specs.declared.entry.Entry.{Entry}
use Rattle.entry_log.proofs.law.known_entries.Given as goal

abbrev pub invariant-loop-entry : goal.invariant-loop-entry
invariant-loop-entry l = (k : ℕ) (d : Entry) → k < l.entry-index → IsEntry (slice_index_or l.entries k d)
