use Rattle.kernel_tables.proofs.kernel_core.Core.leave_along.Goals as goal

pub returns-clause-queues : goal.returns-clause-queues
returns-clause-queues g c = rw (← c.self.view_is) c.leave_along.ensures.queues
