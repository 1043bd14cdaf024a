use Rattle.machine_safe.proofs.LeftNothing.{leaves_nothing}
use Rattle.machine_safe.proofs.told.nothing_is_left.Goals as goal

pub returns : goal.returns
returns c shared = leaves_nothing shared c.args.script.now c.args.history.now c.requires.valid
