use Rattle.std.proofs.Common.{◌+◌, drop}
use Rattle.kernel_tables.specs.StateOf.{state_of}
use Rattle.kernel_tables.proofs.Performing.{left_goes_on, left_ends, next_item, none_left}
use Rattle.kernel_tables.proofs.ready.leave_each.Goals as goal

pub loop-change-preserved : goal.loop-change-preserved
loop-change-preserved g c =
    let m = c.change-item.result in
    let i = c.loop-change.change-index in
    let next = next_item c.args.moves.now i m c.loop-change-test.true c.change-item.is in (
      c.leave_touched.ensures.size,
      λ rank qs h.
          let left = rw next at (c.loop-change.invariant.1 rank qs h) in
          left_goes_on rank c.args.script.now (state_of c.args.tables.now) c.args.thread m
          (drop (i + 1) c.args.moves.now) c.loop-change.ready c.leave_touched.new.ready _ left
          (rw c.touched.ensures at (c.leave_touched.ensures.queues rank)),
    )

pub returns-clause-queues : goal.returns-clause-queues
returns-clause-queues g c = λ rank qs h.
    let ended = none_left c.args.moves.now c.loop-change.change-index c.loop-change-test.false in
    left_ends rank c.args.script.now (state_of c.args.tables.now) c.args.thread c.loop-change.ready _ (rw ended at (c.loop-change.invariant.1 rank qs h))
