use Rattle.std.proofs.Common.{◌≡◌, ◌++◌, drop, map}
use Rattle.state_rows.specs.MessageChanges.{edited, resized}
use Rattle.plain_servers.proofs.copies.with_resized.Given as goal

abbrev pub invariant-loop-message : goal.invariant-loop-message
invariant-loop-message l =
    l.all.items ++ map (edited l.number (resized l.arg l.length)) (drop l.message-index l.messages)
    ≡ map (edited l.number (resized l.arg l.length)) l.messages
