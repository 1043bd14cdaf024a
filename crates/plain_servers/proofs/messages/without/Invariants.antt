use Rattle.std.proofs.Common.{◌≡◌, ◌++◌, drop, filter, not}
use Rattle.state_rows.specs.declared.messages.Message.{Message}
use Rattle.state_rows.specs.MessageRows.{has_number}
use Rattle.plain_servers.proofs.messages.without.Given as goal

abbrev pub invariant-loop-message : goal.invariant-loop-message
invariant-loop-message l =
    let others = filter (λ (message : Message). not (has_number l.number message)) in
    l.rest.items ++ others (drop l.message-index l.messages) ≡ others l.messages
