use Rattle.machine_safe.proofs.shared_histories.one_reference_goes.Goals as goal
use Rattle.machine_safe.proofs.OneLoss.{takes-one}

pub returns : goal.returns
returns c = takes-one _ _ _ c.requires.valid c.requires.legal
