use Rattle.std.proofs.Common.{◌≡◌, ◌+◌, ◌≤◌, drop, min}
use Rattle.machine.specs.References.{total, owed_names}
use Rattle.machine.proofs.count.owed_total.Given as goal

abbrev pub invariant-loop-duties : goal.invariant-loop-duties
invariant-loop-duties l = record {
  rest : min (l.count + total (total (owed_names l.object)) (drop l.duties-index l.owed)) l.most
      ≡ min (l.fn.count + total (total (owed_names l.object)) l.owed) l.most;
  fits : l.count ≤ l.most;
}
