use Rattle.kernel_tables.proofs.ready.take_out.Goals as goal

pub returns-in-SetPriority-clause-queues : goal.returns-in-SetPriority-clause-queues
returns-in-SetPriority-clause-queues c = λ rank. rw c.in-SetPriority.is (c.take_off.ensures.queues rank)

pub returns-in-Pay-Sweep-clause-queues : goal.returns-in-Pay-Sweep-clause-queues
returns-in-Pay-Sweep-clause-queues c =
    let what = rw c.in-Pay-Sweep.is at c.in-Pay-Sweep.field-0-is in
    λ rank. rw (c.in-Pay-Sweep.is, what) (c.take_off-in-Pay-Sweep.ensures.queues rank)
