use Rattle.machine_safe.proofs.shared_histories.whole_run_is_shared.Goals as goal
use Rattle.machine_safe.proofs.SharedRuns.{run-whole}

pub returns : goal.returns
returns c = run-whole _ _ c.requires.valid c.requires.part c.requires.all c.requires.back
