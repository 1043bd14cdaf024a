use Rattle.std.proofs.Common.{◌≡◌}
use Rattle.machine.specs.FinalRows.{rows_from}
use Rattle.kernel_tables.specs.StateOf.{state_of}
use Rattle.kcore.proofs.final_rows.next_row.Given as goal

abbrev pub invariant-loop-number : goal.invariant-loop-number
invariant-loop-number g l = rows_from (state_of l.tables) l.number ≡ rows_from (state_of l.tables) l.from
