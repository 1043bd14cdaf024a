use Rattle.std.proofs.Common.{◌∙◌}
use Rattle.machine.specs.Choice.{priority_of}
use Rattle.kernel_tables.specs.StateOf.{state_of}
use Rattle.kernel_tables.proofs.ReadyChanges.{rotated_size, tick_follows}
use Rattle.kernel_tables.proofs.ready.turn.Goals as goal

pub returns-clause-size : goal.returns-clause-size
returns-clause-size g c = rw c.tick.ensures (rotated_size c.args.ready.now _ ∙ c.requires)

pub returns-clause-queues : goal.returns-clause-queues
returns-clause-queues g c =
    let S = state_of c.args.tables.now in
    rw c.tick.ensures (tick_follows S.synchronization.nano (priority_of S) c.args.ready.now)
