use Rattle.std.proofs.Common.{rules}
use Rattle.machine.specs.Dooms.{end}
use Rattle.kcore.proofs.ActionsDone.{kept-in, made-in}
use Rattle.kcore.proofs.deaths.end.Goals as goal

-- the doom was made in the core that was lent
pub returns-clause-does : goal.returns-clause-does
returns-clause-does g c =
    let d = end c.args.thread in
    c.finish.ensures.does d c.args.core.now
    (made-in c.args.script.now c.args.thread d c.args.core.now _ _ c.doom.new.effects
    (rw c.plain_exit-exit.ensures at c.doom.ensures.made) (search rules))

pub returns-clause-notes : goal.returns-clause-notes
returns-clause-notes g c = kept-in _ _ _ _ c.finish.ensures.notes c.doom.ensures.made.notes (search rules)
