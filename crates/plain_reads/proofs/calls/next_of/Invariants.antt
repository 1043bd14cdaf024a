use Rattle.std.proofs.Common.{◌≡◌, drop}
use Rattle.sym_base.specs.Greatest.{first_of_greatest}
use Rattle.state_rows.specs.Deferred.{priority_of, next_of, queue_at}
use Rattle.plain_reads.specs.BestSoFar.{best_of}
use Rattle.plain_reads.proofs.calls.next_of.Given as goal

abbrev pub invariant-loop-dfc : goal.invariant-loop-dfc
invariant-loop-dfc l =
    best_of (priority_of l.rows) l.best (first_of_greatest (priority_of l.rows)
    (drop l.dfc-index (queue_at l.rows l.queue))) ≡ next_of l.rows l.queue
