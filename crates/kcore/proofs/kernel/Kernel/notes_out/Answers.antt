use Rattle.std.proofs.Common.{◌∙◌}
use Rattle.kcore.proofs.ActionsDone.{same-notes}
use Rattle.kcore.proofs.BothWays.{notes-out}
use Rattle.kcore.proofs.kernel.Kernel.notes_out.Goals as goal

pub returns-clause-away : goal.returns-clause-away
returns-clause-away g c =
    let k = c.self.inside in
    rw (← c.self.view_is) (λ suits. c.self.invariant.counted
    ∙ (notes-out k.core.state.mode.shared k.script k.history.items k.core c.self.invariant.stands suits).many)

pub returns-clause-many : goal.returns-clause-many
returns-clause-many g c = rw (← c.self.view_is) c.self.invariant.counted

pub returns-clause-notes : goal.returns-clause-notes
returns-clause-notes g c = rw (← c.self.view_is) (same-notes g.W.RefWords.meaning _ _ c.core.view_is c.len.ensures.notes)
