use Rattle.std.proofs.Common.{◌≡◌, ◌+◌, ◌≤◌, drop, min}
use Rattle.machine.specs.References.{total, mutex_names}
use Rattle.machine.proofs.count.listed_total.Given as goal

abbrev pub invariant-loop-one : goal.invariant-loop-one
invariant-loop-one l = record {
  rest : min (l.count + total (mutex_names l.object) (drop l.one-index l.owned)) l.most ≡ min (l.fn.count + total (mutex_names l.object) l.owned) l.most;
  fits : l.count ≤ l.most;
}
