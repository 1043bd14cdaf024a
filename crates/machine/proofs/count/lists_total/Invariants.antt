use Rattle.std.proofs.Common.{◌≡◌, ◌+◌, ◌≤◌, drop, min}
use Rattle.machine.specs.References.{total, mutex_names}
use Rattle.machine.proofs.count.lists_total.Given as goal

abbrev pub invariant-loop-owned : goal.invariant-loop-owned
invariant-loop-owned l = record {
  rest : min (l.count + total (total (mutex_names l.object)) (drop l.owned-index l.lists)) l.most
      ≡ min (l.fn.count + total (total (mutex_names l.object)) l.lists) l.most;
  fits : l.count ≤ l.most;
}
