use Rattle.machine_laws.proofs.Reached.AfterHistory.{well_formed-after}
use Rattle.machine_safe.proofs.told.state_is_well_formed.Goals as goal

pub returns : goal.returns
returns c = record { formed = λ shared. well_formed-after shared c.args.script.now c.args.history.now c.requires.valid }
