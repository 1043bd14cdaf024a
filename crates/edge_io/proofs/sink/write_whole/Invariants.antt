use Rattle.std.proofs.Common.{◌≡◌, ◌≤◌, ◌-◌, length, take}
use Rattle.std.specs.Prelude.{is_some}
use Rattle.edge_io.specs.Written.{Wrote}
use Rattle.edge_io.proofs.sink.write_whole.Given as goal

-- a prefix of the piece was written
abbrev pub invariant-loop-done : goal.invariant-loop-done
invariant-loop-done g l = record {
  within : l.done ≤ length l.piece;
  wrote : Wrote (g.K.Sink.written l.fn.sink) (g.K.Sink.written l.sink) (take l.done l.piece);
  tells : is_some (g.K.Sink.written l.sink) ≡ is_some (g.K.Sink.written l.fn.sink);
  never_falls : g.K.Sink.faults l.fn.sink ≤ g.K.Sink.faults l.sink;
}

abbrev pub decreases-loop-done : goal.decreases-loop-done
decreases-loop-done g l = length l.piece - l.done
