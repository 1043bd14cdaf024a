use Rattle.std.proofs.Common.{◌≡◌, ◌+◌, ◌≤◌, drop, min}
use Rattle.machine.specs.References.{total, thread_names}
use Rattle.machine.proofs.count.threads_total.Given as goal

abbrev pub invariant-loop-row : goal.invariant-loop-row
invariant-loop-row l = record {
  rest : min (l.count + total (thread_names l.object) (drop l.row-index l.threads)) l.most ≡ min (l.fn.count + total (thread_names l.object) l.threads) l.most;
  fits : l.count ≤ l.most;
}
