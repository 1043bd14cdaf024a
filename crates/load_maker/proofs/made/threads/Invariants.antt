use Rattle.std.proofs.Common.{◌≡◌, ◌+◌, ◌*◌, ◌≤◌}
use Rattle.load_maker.specs.Made.{client_state, client_threads, clients_messages}
use Rattle.load_maker.proofs.made.threads.Given as goal

-- the clients so far
abbrev pub invariant-loop-client : goal.invariant-loop-client
invariant-loop-client l = record {
  state : l.draws.state ≡ client_state l.seed l.size l.client;
  threads : l.threads.items ≡ client_threads l.seed l.size l.client;
  messages : l.messages ≡ 8 + clients_messages l.seed l.size l.client;
  few : l.messages ≤ 8 + 500 * l.client;
}
