-- The definitions give the histories that the examples of kernel threads say.
use Rattle.std.proofs.Common.{◌≡◌, refl}
use Rattle.machine.specs.Run.{run}
use Rattle.machine.specs.Transition.{act}
use Rattle.machine.specs.Boot.{boot_of}
use Rattle.plain_machine.specs.KernelThreadScripts.{holder_runs, holder_runs_history, suspended_before, suspended_before_history}

pub holder_runs_run : run holder_runs ≡ holder_runs_history
unfolding holder_runs holder_runs_history act boot_of
holder_runs_run = refl

pub suspended_before_run : run suspended_before ≡ suspended_before_history
unfolding suspended_before suspended_before_history act boot_of
suspended_before_run = refl
