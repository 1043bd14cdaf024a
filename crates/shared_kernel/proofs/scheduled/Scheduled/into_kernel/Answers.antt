use Rattle.std.proofs.Common.{true}
use Rattle.shared_kernel.proofs.scheduled.Scheduled.into_kernel.Goals as goal

pub returns-clause-mode : goal.returns-clause-mode
returns-clause-mode c = c.history.ensures.mode true c.self.invariant.shareable.mode

pub returns-clause-safe : goal.returns-clause-safe
returns-clause-safe c = c.history.ensures.safe true c.self.invariant.shareable.mode

pub returns-clause-part : goal.returns-clause-part
returns-clause-part c = c.self.invariant.part
