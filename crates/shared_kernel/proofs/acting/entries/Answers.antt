use Rattle.std.proofs.Common.{true}
use Rattle.shared_kernel.proofs.acting.entries.Goals as goal

pub returns-clause-legal : goal.returns-clause-legal
returns-clause-legal c = c.history.ensures.legal true c.requires.mode

pub returns-clause-safe : goal.returns-clause-safe
returns-clause-safe c = c.history.ensures.safe true c.requires.mode
