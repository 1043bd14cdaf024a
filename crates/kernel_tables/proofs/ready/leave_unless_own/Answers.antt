use Rattle.kernel_tables.specs.StateOf.{state_of}
use Rattle.kernel_tables.proofs.OwnMoves.{own_leaves}
use Rattle.kernel_tables.proofs.ready.leave_unless_own.Goals as goal

pub returns-then-is_running-clause-queues : goal.returns-then-is_running-clause-queues
returns-then-is_running-clause-queues g c = λ rank.
    own_leaves c.args.script.now (state_of c.args.tables.now) rank c.args.thread c.args.moves.now c.args.ready.now
    (c.requires.own c.if-own.true) (c.is_running.ensures c.args.script.now c.if-is_running.true)
