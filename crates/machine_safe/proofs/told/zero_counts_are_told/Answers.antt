use Rattle.machine_safe.proofs.Counts.{tells_zero}
use Rattle.machine_safe.proofs.told.zero_counts_are_told.Goals as goal

pub returns : goal.returns
returns c = record { zero = tells_zero _ _ c.requires.valid c.requires.legal }
