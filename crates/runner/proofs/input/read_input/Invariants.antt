use Rattle.std.proofs.Common.{◌≡◌, ◌≤◌, ◌-◌, vec_len}
use Rattle.std.specs.Prelude.{is_some}
use Rattle.edge_io.specs.Left.{preceded}
use Rattle.runner.proofs.input.read_input.Given as goal

abbrev pub invariant-loop-count : goal.invariant-loop-count
invariant-loop-count g l = record {
  within : vec_len l.input ≤ l.fn.limit;
  bytes : preceded l.input.items (g.S.Source.left l.source) ≡ g.S.Source.left l.fn.source;
  tells : is_some (g.S.Source.left l.source) ≡ is_some (g.S.Source.left l.fn.source);
  never_falls : g.S.Source.faults l.fn.source ≤ g.S.Source.faults l.source;
}

abbrev pub decreases-loop-count : goal.decreases-loop-count
decreases-loop-count g l = l.fn.limit - vec_len l.input
