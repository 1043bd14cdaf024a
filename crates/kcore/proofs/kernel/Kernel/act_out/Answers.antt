use Rattle.machine.specs.Boot.{boot_in}
use Rattle.std.proofs.Common.{true}
use Rattle.machine.specs.History.{after_in}
use Rattle.machine_laws.proofs.Reached.Modes.{shared-after}
use Rattle.kcore.proofs.Alone.{may_act_able}
use Rattle.kcore.proofs.Lighter.{lighter-more}
use Rattle.kcore.proofs.OutKernel.{able-apart}
use Rattle.kcore.proofs.kernel.Kernel.act_out.Goals as goal

pub step_out-requires-clause-can : goal.step_out-requires-clause-can
step_out-requires-clause-can g c =
    let k = c.args.self.now in
    may_act_able k.script (after_in true k.script k.history) c.args.t c.requires.able

pub step_out-requires-clause-stays : goal.step_out-requires-clause-stays
step_out-requires-clause-stays g c =
    let k = c.args.self.now in
    able-apart k.script (after_in true k.script k.history) c.args.t (shared-after k.script (boot_in true k.script) k.history) c.requires.able

pub returns-clause-lighter : goal.returns-clause-lighter
returns-clause-lighter g c =
    let k = c.args.self.now in
    let new = c.step_out.new.self in
    rw c.step_out.ensures.script (lighter-more k.script k.history new.history c.args.t c.step_out.ensures.entry.more
    (rw c.step_out.ensures.script at c.step_out.ensures.safe))
