use Rattle.std.proofs.Common.{◌≡◌, drop}
use Rattle.kernel_tables.specs.Choosing.{MayChoose}
use Rattle.kcore.proofs.RunningOps.{OpsRun}
use Rattle.kcore.proofs.bodies.run_ops.Given as goal

abbrev pub invariant-loop-op : goal.invariant-loop-op
invariant-loop-op g l = record {
  ops : OpsRun l.script l.thread l.ops l.initial.core.state l.initial.core.ready l.initial.effects l.initial.made
      (drop l.op-index l.ops) l.core.state l.core.ready l.effects l.made;
  may : MayChoose l.thread l.core.notes l.core.state;
  notes : l.core.notes ≡ l.initial.core.notes;
}
