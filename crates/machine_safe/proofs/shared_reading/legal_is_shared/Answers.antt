use Rattle.machine_safe.proofs.shared_reading.legal_is_shared.Goals as goal
use Rattle.machine_safe.proofs.SharedReadings.{shared-too}

pub returns : goal.returns
returns c = shared-too _ _ c.requires.legal
