use Rattle.std.proofs.Common.{◌≡◌, ◌+◌, length}
use Rattle.machine.specs.FinalRows.{final_rows, rows_from}
use Rattle.machine.specs.History.{after}
use Rattle.runner.proofs.summary.objects_left.Given as goal

-- the rows that are behind, and those that are left
abbrev pub invariant-loop-row : goal.invariant-loop-row
invariant-loop-row l =
    l.objects + length (rows_from (after l.schedule.script l.schedule.history) l.from)
    ≡ length (final_rows (after l.schedule.script l.schedule.history))

-- each turn has one row fewer to count
abbrev pub decreases-loop-row : goal.decreases-loop-row
decreases-loop-row l = length (rows_from (after l.schedule.script l.schedule.history) l.from)
