use Rattle.kernel_tables.proofs.GoingActions.{able_goes}
use Rattle.death.proofs.death.Death.reap_one.Goals as goal

pub make-requires-clause-goes : goal.make-requires-clause-goes
make-requires-clause-goes g c =
    let goes = able_goes c.args.script.now c.args.self.now.core.now.state c.args.t c.requires.runs.shaped c.requires.runs.rows c.requires.dying.able in
    rw c.decide_reaped.ensures.decided (rw (← c.core.view_is) at goes)

pub make-requires-clause-may : goal.make-requires-clause-may
make-requires-clause-may g c = rw (← c.core.view_is) at c.requires.choice
