use Rattle.std.proofs.Common.{true}
use Rattle.shared_kernel.proofs.free.Free.into_kernel.Goals as goal

pub returns-clause-mode : goal.returns-clause-mode
returns-clause-mode c = c.history.ensures.mode true c.self.invariant.mode

pub returns-clause-safe : goal.returns-clause-safe
returns-clause-safe c = c.history.ensures.safe true c.self.invariant.mode

pub returns-clause-legal : goal.returns-clause-legal
returns-clause-legal c = c.history.ensures.legal true c.self.invariant.mode
