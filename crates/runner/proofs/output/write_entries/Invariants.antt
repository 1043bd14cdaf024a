use Rattle.std.proofs.Common.{◌≡◌, ◌≤◌, drop}
use Rattle.std.specs.List.{flat_map}
use Rattle.std.specs.Prelude.{is_some}
use Rattle.edge_io.proofs.Writing.{WroteAllBut}
use Rattle.entry_log.specs.EntryLine.{entry_line}
use Rattle.runner.specs.RunText.{shown}
use Rattle.runner.proofs.output.write_entries.Given as goal

-- the lines of the entries that are behind were written, as far as they are shown
abbrev pub invariant-loop-entry : goal.invariant-loop-entry
invariant-loop-entry g l = record {
  all : WroteAllBut (g.K.Sink.written l.fn.sink) (g.K.Sink.written l.sink)
      (flat_map entry_line (shown l.detail (drop l.entry-index l.entries)))
      (flat_map entry_line (shown l.detail l.entries));
  tells : is_some (g.K.Sink.written l.sink) ≡ is_some (g.K.Sink.written l.fn.sink);
  never_falls : g.K.Sink.faults l.fn.sink ≤ g.K.Sink.faults l.sink;
}
