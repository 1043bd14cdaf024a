use Rattle.std.proofs.Common.{◌≡◌}
use Rattle.machine.specs.FinalRows.{rows_from}
use Rattle.plain_machine.proofs.final_rows.next_row.Given as goal

abbrev pub invariant-loop-number : goal.invariant-loop-number
invariant-loop-number l = rows_from l.state l.number ≡ rows_from l.state l.from
