use Rattle.std.proofs.Common.{◌≡◌, drop}
use Rattle.sym_base.specs.Greatest.{first_of_greatest}
use Rattle.machine.specs.Choice.{priority_of}
use Rattle.plain_reads.specs.BestSoFar.{best_of}
use Rattle.plain_reads.proofs.choice.first_of_greatest.Given as goal

abbrev pub invariant-loop-thread : goal.invariant-loop-thread
invariant-loop-thread l =
    best_of (priority_of l.state) l.best (first_of_greatest (priority_of l.state) (drop l.thread-index l.threads))
    ≡ first_of_greatest (priority_of l.state) l.threads
