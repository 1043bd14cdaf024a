use Rattle.std.proofs.Common.{◌≡◌, ◌+◌, ◌≤◌, drop, min}
use Rattle.machine.specs.References.{total, slot_names}
use Rattle.machine.proofs.count.tables_total.Given as goal

abbrev pub invariant-loop-table : goal.invariant-loop-table
invariant-loop-table l = record {
  rest : min (l.count + total (total (slot_names l.object)) (drop l.table-index l.tables)) l.most
      ≡ min (l.fn.count + total (total (slot_names l.object)) l.tables) l.most;
  fits : l.count ≤ l.most;
}
