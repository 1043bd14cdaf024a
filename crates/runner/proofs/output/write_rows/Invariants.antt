use Rattle.std.proofs.Common.{◌≡◌, ◌≤◌, length}
use Rattle.std.specs.List.{flat_map}
use Rattle.std.specs.Prelude.{is_some}
use Rattle.edge_io.proofs.Writing.{WroteAllBut}
use Rattle.entry_log.specs.FinalLine.{final_line}
use Rattle.machine.specs.FinalRows.{final_rows, rows_from}
use Rattle.runner.specs.RunText.{state_after}
use Rattle.runner.proofs.output.write_rows.Given as goal

-- the lines of the rows that are behind were written
abbrev pub invariant-loop-row : goal.invariant-loop-row
invariant-loop-row g l = record {
  all : WroteAllBut (g.K.Sink.written l.fn.sink) (g.K.Sink.written l.sink)
      (flat_map final_line (rows_from (state_after l.kernel) l.from))
      (flat_map final_line (final_rows (state_after l.kernel)));
  tells : is_some (g.K.Sink.written l.sink) ≡ is_some (g.K.Sink.written l.fn.sink);
  never_falls : g.K.Sink.faults l.fn.sink ≤ g.K.Sink.faults l.sink;
}

-- each turn has one row fewer to write
abbrev pub decreases-loop-row : goal.decreases-loop-row
decreases-loop-row g l = length (rows_from (state_after l.kernel) l.from)
