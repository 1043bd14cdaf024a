-- The definitions give the history that the worked example says.
use Rattle.std.proofs.Common.{◌≡◌, refl}
use Rattle.machine.specs.Run.{run}
use Rattle.machine.specs.Transition.{act}
use Rattle.machine.specs.Boot.{boot_of}
use Rattle.machine.specs.TwoHandles.{two_handles, two_handles_history}

pub two_handles_run : run two_handles ≡ two_handles_history
unfolding two_handles two_handles_history act boot_of
two_handles_run = refl
