use Rattle.std.proofs.Common.{sym, ◌∙◌}
use Rattle.kernel_tables.specs.StateOf.{state_of}
use Rattle.kernel_tables.proofs.ReadyChanges.{leaves_ready, leaves_unready}
use Rattle.kernel_tables.proofs.ready.leave_unready.Goals as goal

pub returns-then-not-is_ready-clause-queues : goal.returns-then-not-is_ready-clause-queues
returns-then-not-is_ready-clause-queues g c = λ rank.
    leaves_unready c.args.script.now (state_of c.args.tables.now) rank c.args.ready.now c.take_off.new.ready c.args.thread
    (sym c.is_ready.ensures ∙ c.if-not-is_ready.true) (c.take_off.ensures.queues rank)

pub returns-else-not-is_ready-clause-queues : goal.returns-else-not-is_ready-clause-queues
returns-else-not-is_ready-clause-queues g c = λ rank.
    leaves_ready c.args.script.now (state_of c.args.tables.now) rank c.args.ready.now c.args.thread
    (sym c.is_ready.ensures ∙ c.if-not-is_ready.false)
