use Rattle.shared_kernel.proofs.Sent.{last-none, last-thread}
use Rattle.shared_kernel.proofs.acting.last_thread.Goals as goal

pub returns-in-Thread : goal.returns-in-Thread
returns-in-Thread c = λ before e longer. last-thread before c.args.history.now e _ c.in-Thread.thread longer c.in-Thread.is

pub returns-in_default : goal.returns-in_default
returns-in_default c = λ before e longer. last-none before c.args.history.now e _ longer c.in_default.not-Thread
