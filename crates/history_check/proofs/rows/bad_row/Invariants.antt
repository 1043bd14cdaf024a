use Rattle.std.proofs.Common.{length}
use Rattle.machine.specs.FinalRows.{final_rows, rows_from}
use Rattle.machine.specs.History.{after_in}
use Rattle.history_check.proofs.ToldRows.{IsToldSo}
use Rattle.history_check.proofs.rows.bad_row.Given as goal

-- the rows so far are told
abbrev pub invariant-loop-row : goal.invariant-loop-row
invariant-loop-row l =
    IsToldSo (final_rows (after_in l.plain.shared l.plain.script l.plain.history))
    (rows_from (after_in l.plain.shared l.plain.script l.plain.history) l.from) l.text l.rest l.fn.line l.line

-- each turn has one row fewer to tell
abbrev pub decreases-loop-row : goal.decreases-loop-row
decreases-loop-row l = length (rows_from (after_in l.plain.shared l.plain.script l.plain.history) l.from)
