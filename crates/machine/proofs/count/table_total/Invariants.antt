use Rattle.std.proofs.Common.{◌≡◌, ◌+◌, ◌≤◌, drop, min}
use Rattle.machine.specs.References.{total, slot_names}
use Rattle.machine.proofs.count.table_total.Given as goal

abbrev pub invariant-loop-slot : goal.invariant-loop-slot
invariant-loop-slot l = record {
  rest : min (l.count + total (slot_names l.object) (drop l.slot-index l.table)) l.most ≡ min (l.fn.count + total (slot_names l.object) l.table) l.most;
  fits : l.count ≤ l.most;
}
