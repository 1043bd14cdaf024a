use Rattle.std.proofs.Common.{◌+◌, false, length, refl}
use Rattle.entry_log.specs.declared.entry.Actor.TheVariants.{Thread}
use Rattle.machine.specs.History.{after, entry_by}
use Rattle.kcore.proofs.Alone.{may_act_able}
use Rattle.kcore.proofs.Lighter.{lighter}
use Rattle.kcore.proofs.kernel.Kernel+PlainWords.act.Goals as goal

pub step-requires-clause-can : goal.step-requires-clause-can
step-requires-clause-can c =
    let k = c.args.self.now in
    may_act_able k.script (after k.script k.history) c.args.t c.requires.able

pub returns-clause-lighter : goal.returns-clause-lighter
returns-clause-lighter c =
    let k = c.args.self.now in
    let new = c.step.new.self in
    let e = entry_by k.script (after k.script k.history) (length k.history + 1) (Thread c.args.t) in
    rw c.step.ensures.script (lighter false k.script k.history new.history e c.args.t c.step.ensures.entry refl
    (rw c.step.ensures.script at c.step.ensures.safe))
