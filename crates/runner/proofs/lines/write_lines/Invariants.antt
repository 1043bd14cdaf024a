use Rattle.std.proofs.Common.{◌≡◌, ◌≤◌, length}
use Rattle.std.specs.Prelude.{is_some}
use Rattle.edge_io.proofs.Writing.{WroteAllBut}
use Rattle.runner.proofs.lines.write_lines.Given as goal

-- what stands before the rest was written
abbrev pub invariant-loop-rest : goal.invariant-loop-rest
invariant-loop-rest g l = record {
  all : WroteAllBut (g.K.Sink.written l.fn.sink) (g.K.Sink.written l.sink) l.rest l.text;
  tells : is_some (g.K.Sink.written l.sink) ≡ is_some (g.K.Sink.written l.fn.sink);
  never_falls : g.K.Sink.faults l.fn.sink ≤ g.K.Sink.faults l.sink;
}

-- each turn leaves less to write
abbrev pub decreases-loop-rest : goal.decreases-loop-rest
decreases-loop-rest g l = length l.rest
