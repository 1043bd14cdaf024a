use Rattle.kernel_tables.specs.StateOf.{state_of}
use Rattle.kernel_tables.proofs.ReadyChanges.{leaves_ready, leaves_unqueued}
use Rattle.kernel_tables.proofs.ready.leave.Goals as goal
use Rattle.kernel_tables.proofs.ready.leave.Goals.{then-is_running-via-then-is_running, then-is_running-via-else-is_running+then-not-is_queued}

pub returns-then-is_running-clause-queues : goal.returns-then-is_running-clause-queues
returns-then-is_running-clause-queues g c = λ rank.
    let S = state_of c.args.tables.now in
    let t = c.in-Some.thread in
    rw c.in-Some.is (elim c.then-is_running.branch [
      | then-is_running-via-then-is_running w ↦
          leaves_ready c.args.script.now S rank c.args.ready.now t (c.is_running.ensures c.args.script.now w.if-is_running.true)
      | then-is_running-via-else-is_running+then-not-is_queued w ↦
          leaves_unqueued c.args.script.now S rank c.args.ready.now t (w.is_queued.ensures.absent w.if-not-is_queued.true)
    ])

pub returns-clause-queues : goal.returns-clause-queues
returns-clause-queues g c = λ rank. rw c.in-Some.is (c.leave_unready.ensures.queues rank)
