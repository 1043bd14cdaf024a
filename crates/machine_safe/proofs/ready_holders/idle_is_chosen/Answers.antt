use Rattle.machine_safe.proofs.ReadyHolders.{idle_choice}
use Rattle.machine_safe.proofs.ready_holders.idle_is_chosen.Goals as goal

pub returns : goal.returns
returns c = λ shared. idle_choice shared c.args.script.now c.args.history.now c.requires.valid
