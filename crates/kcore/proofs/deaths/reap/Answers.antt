use Rattle.std.proofs.Common.{rules}
use Rattle.machine.specs.Steps.{decision_of}
use Rattle.kcore.proofs.ActionsDone.{kept-in, made-in, may-in-lent, same-kept, same-state}
use Rattle.kcore.proofs.deaths.reap.Goals as goal

-- nothing was left, and nothing changed but the decision
pub carry_out-requires-clause-may : goal.carry_out-requires-clause-may
carry_out-requires-clause-may g c =
    let same = (rw c.in-NothingLeft.is at c.reap_one.ensures.nothing).0 in
    may-in-lent c.args.thread c.args.core.now.state _ _ c.args.core.now.notes _ _ (same-state _ _ same)
    (same-kept _ _ same) (search rules) (search rules) c.requires.may_choose

pub returns-in-NothingLeft-clause-notes : goal.returns-in-NothingLeft-clause-notes
returns-in-NothingLeft-clause-notes g c =
    let same = (rw c.in-NothingLeft.is at c.reap_one.ensures.nothing).0 in
    kept-in _ _ _ _ c.carry_out.ensures.notes (same-kept _ _ same) (search rules)

-- something was paid or given up in the core that was lent
pub returns-in-Step-clause-does : goal.returns-in-Step-clause-does
returns-in-Step-clause-does g c =
    let d = decision_of c.args.script.now c.args.core.now.state c.args.thread in
    let made = rw c.in-Step.is at c.reap_one.ensures.made in
    c.finish.ensures.does d c.args.core.now (made-in c.args.script.now c.args.thread d c.args.core.now _ _ c.reap_one.new.effects made (search rules))

pub returns-in-Step-clause-notes : goal.returns-in-Step-clause-notes
returns-in-Step-clause-notes g c =
    let made = rw c.in-Step.is at c.reap_one.ensures.made in
    kept-in _ _ _ _ c.finish.ensures.notes made.notes (search rules)
