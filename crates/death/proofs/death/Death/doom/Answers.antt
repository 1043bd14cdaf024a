use Rattle.death.proofs.Dying.{doom_goes}
use Rattle.death.proofs.death.Death.doom.Goals as goal

pub make-requires-clause-goes : goal.make-requires-clause-goes
make-requires-clause-goes g c =
    let goes = doom_goes c.args.script.now c.args.self.now.core.now.state c.args.t c.args.exit c.requires.runs.shaped c.requires.runs.rows c.requires.may in
    rw c.decide_doom.ensures (rw (← c.core.view_is) at goes)

pub make-requires-clause-may : goal.make-requires-clause-may
make-requires-clause-may g c = rw (← c.core.view_is) at c.requires.choice
