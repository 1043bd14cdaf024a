use Rattle.std.proofs.Common.{◌+◌, length, subst}
use Rattle.machine.specs.History.{IsIdle}
use Rattle.kcore.proofs.ScheduleGoes.{run-stands}
use Rattle.kcore.proofs.schedule_run.ScheduleRun.is_pause.Goals as goal

pub returns-in-Go-clause-idle : goal.returns-in-Go-clause-idle
returns-in-Go-clause-idle c =
    let r = c.self.inside in
    let h = c.self.invariant in
    rw (← c.self.view_is) (λ idle. subst (IsIdle r.script) (run-stands r.script (r.before + length r.part.items) r.core h).state (h.kernel.rests idle))
