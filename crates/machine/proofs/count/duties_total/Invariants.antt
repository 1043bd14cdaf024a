use Rattle.std.proofs.Common.{◌≡◌, ◌+◌, ◌≤◌, drop, min}
use Rattle.machine.specs.References.{total, owed_names}
use Rattle.machine.proofs.count.duties_total.Given as goal

abbrev pub invariant-loop-owed : goal.invariant-loop-owed
invariant-loop-owed l = record {
  rest : min (l.count + total (owed_names l.object) (drop l.owed-index l.duties)) l.most ≡ min (l.fn.count + total (owed_names l.object) l.duties) l.most;
  fits : l.count ≤ l.most;
}
