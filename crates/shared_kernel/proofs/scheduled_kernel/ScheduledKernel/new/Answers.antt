use Rattle.std.proofs.Common.{◌∙◌, ap}
use Rattle.shared_kernel.specs.declared.base.KernelBase.{KernelBase}
use Rattle.shared_kernel.proofs.scheduled_kernel.ScheduledKernel.new.Goals as goal

pub returns-clause-script : goal.returns-clause-script
returns-clause-script c = ap (λ (b : KernelBase). b.script) c.in_ok-turns.ensures.base ∙ c.in_ok-scheduled.ensures.script
