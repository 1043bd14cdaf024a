use Rattle.std.proofs.Common.{◌≡◌, ◌+◌, ◌≤◌, drop, min}
use Rattle.machine.specs.References.{total, session_names}
use Rattle.machine.proofs.count.sessions_total.Given as goal

abbrev pub invariant-loop-session : goal.invariant-loop-session
invariant-loop-session l = record {
  rest : min (l.count + total (session_names l.object) (drop l.session-index l.sessions)) l.most ≡ min (l.fn.count + total (session_names l.object) l.sessions) l.most;
  fits : l.count ≤ l.most;
}
