use Rattle.std.proofs.Common.{◌≡◌, ◌++◌, drop, map}
use Rattle.state_rows.specs.MessageChanges.{edited, taken_row}
use Rattle.plain_servers.proofs.messages.with_taken.Given as goal

abbrev pub invariant-loop-message : goal.invariant-loop-message
invariant-loop-message l = l.all.items ++ map (edited l.number taken_row) (drop l.message-index l.messages) ≡ map (edited l.number taken_row) l.messages
