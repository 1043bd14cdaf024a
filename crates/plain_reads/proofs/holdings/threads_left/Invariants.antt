use Rattle.std.proofs.Common.{◌≡◌, ◌+◌, ◌-◌, ◌^◌, ◌≤◌, drop, min}
use Rattle.machine.specs.Holdings.{left_of}
use Rattle.machine.specs.References.{total}
use Rattle.plain_reads.proofs.holdings.threads_left.Given as goal

abbrev pub invariant-loop-row : goal.invariant-loop-row
invariant-loop-row l = record {
  rest : min (l.left + total (left_of l.process) (drop l.row-index l.rows)) (2 ^ 32 - 1) ≡ min (total (left_of l.process) l.rows) (2 ^ 32 - 1);
  fits : l.left ≤ 2 ^ 32 - 1;
}
