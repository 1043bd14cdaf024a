use Rattle.std.proofs.Common.{◌≡◌, ◌+◌, ◌≤◌, drop, min}
use Rattle.machine.specs.References.{total, message_names}
use Rattle.machine.proofs.count.messages_total.Given as goal

abbrev pub invariant-loop-message : goal.invariant-loop-message
invariant-loop-message l = record {
  rest : min (l.count + total (message_names l.object) (drop l.message-index l.outstanding)) l.most ≡ min (l.fn.count + total (message_names l.object) l.outstanding) l.most;
  fits : l.count ≤ l.most;
}
