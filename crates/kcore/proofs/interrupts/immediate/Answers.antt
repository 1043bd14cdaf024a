use Rattle.kernel_tables.proofs.GoingActions.{immediate_goes}
use Rattle.kcore.proofs.interrupts.immediate.Goals as goal

pub follow-requires-clause-goes : goal.follow-requires-clause-goes
follow-requires-clause-goes g c =
    rw (c.immediate_action-body.ensures) (rw (← c.core.view_is) at
    (immediate_goes c.args.script.now c.args.core.now.state c.requires.runs.shaped c.requires.runs.rows))

pub returns-clause-does : goal.returns-clause-does
returns-clause-does g c = rw (← c.core.view_is) (rw c.immediate_action-body.ensures at c.follow.ensures.does)

pub follow-requires-clause-may : goal.follow-requires-clause-may
follow-requires-clause-may g c = rw (← c.core.view_is) at c.requires.may
