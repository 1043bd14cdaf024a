use Rattle.machine_safe.proofs.DoomedAble.{doomed_able}
use Rattle.machine_safe.proofs.ready_holders.doomed_are_able.Goals as goal

pub returns : goal.returns
returns c = λ shared. doomed_able shared c.args.script.now c.args.history.now c.requires.valid
