use Rattle.machine.specs.Choice.{priority_of}
use Rattle.kernel_tables.specs.StateOf.{state_of}
use Rattle.kernel_tables.proofs.OwnMoves.{own_comes, own_stays}
use Rattle.kernel_tables.proofs.ready.follow_move.Goals as goal

pub returns-then-own-clause-queues : goal.returns-then-own-clause-queues
returns-then-own-clause-queues g c =
    let S = state_of c.args.tables.now in
    let alone = c.requires.alone c.if-own.true in
    record {
      between = c.args.ready.now;
      leaves = own_stays c.args.thread c.args.change.now c.args.ready.now alone.0;
      comes =
          own_comes c.args.script.now S (priority_of S) c.args.thread c.args.change.now c.args.ready.now
          c.requires.known alone.0 alone.1;
    }

pub returns-clause-queues : goal.returns-clause-queues
returns-clause-queues g c = record {
  between = c.take_out.new.ready;
  leaves = c.take_out.ensures.queues;
  comes = rw c.touched.ensures at c.arrive_touched.ensures.queues;
}
