use Rattle.std.proofs.Common.{rules}
use Rattle.machine.specs.Steps.{decision_of}
use Rattle.kcore.proofs.ActionsDone.{kept-in, made-in}
use Rattle.kcore.proofs.deaths.bury.Goals as goal

-- the burial was made in the core that was lent
pub returns-clause-does : goal.returns-clause-does
returns-clause-does g c =
    let d = decision_of c.args.script.now c.args.core.now.state c.args.thread in
    c.finish.ensures.does d c.args.core.now
    (made-in c.args.script.now c.args.thread d c.args.core.now _ _ c.bury.new.effects c.bury.ensures.made
    (search rules))

pub returns-clause-notes : goal.returns-clause-notes
returns-clause-notes g c = kept-in _ _ _ _ c.finish.ensures.notes c.bury.ensures.made.notes (search rules)
