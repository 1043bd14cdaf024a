use Rattle.links.proofs.Marks.{mark_tells, are_apart}
use Rattle.links.proofs.links.Links.is_linked.Goals as goal

pub returns-clause-linked : goal.returns-clause-linked
returns-clause-linked c =
    let node = rw (← c.self.view_is) at c.requires in
    rw (← c.self.view_is) (mark_tells _ _ _ _ c.self.invariant c.args.node c.next.result node c.next.ensures)

pub returns-clause-apart : goal.returns-clause-apart
returns-clause-apart c = rw (← c.self.view_is) (are_apart _ _ _ _ c.self.invariant)
