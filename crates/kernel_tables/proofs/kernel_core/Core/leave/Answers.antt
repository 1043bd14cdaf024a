use Rattle.kernel_tables.proofs.kernel_core.Core.leave.Goals as goal

pub returns-clause-queues : goal.returns-clause-queues
returns-clause-queues g c = rw (← c.self.view_is) (rw c.as_slice-moves.ensures.moves at c.leave_unless_own.ensures.queues)

pub leave_unless_own-requires-clause-own : goal.leave_unless_own-requires-clause-own
leave_unless_own-requires-clause-own g c = rw c.as_slice-moves.ensures.moves (rw (← c.self.view_is) at c.requires.own)
