use Rattle.std.proofs.Common.{◌∙◌, arith}
use Rattle.links.proofs.Marks.{none_first, here_some, here_none}
use Rattle.links.proofs.Walks.{bounded}
use Rattle.links.proofs.links.Links.first.Goals as goal

pub returns-then-node-self-clause-first : goal.returns-then-node-self-clause-first
returns-then-node-self-clause-first c =
    let listed = rw (← c.self.view_is) at c.requires in
    rw (← c.self.view_is) (here_some _ _ _ _ c.self.invariant c.args.list 0 c.next-node.result listed (omega arith)
    (c.next-node.ensures ∙ (c.self.invariant.rings c.args.list listed).forward 0 (omega arith)) (omega arith))

pub returns-else-node-self-clause-first : goal.returns-else-node-self-clause-first
returns-else-node-self-clause-first c =
    let listed = rw (← c.self.view_is) at c.requires in
    rw (← c.self.view_is) (here_none _ _ _ _ c.self.invariant c.args.list 0 c.next-node.result listed
    (c.next-node.ensures ∙ (c.self.invariant.rings c.args.list listed).forward 0 (omega arith)) (omega arith))

pub returns-then-node-self-clause-none : goal.returns-then-node-self-clause-none
returns-then-node-self-clause-none c =
    let listed = rw (← c.self.view_is) at c.requires in
    rw (← c.self.view_is) (none_first _ _ (here_some _ _ _ _ c.self.invariant c.args.list 0 c.next-node.result listed
    (omega arith) (c.next-node.ensures ∙ (c.self.invariant.rings c.args.list listed).forward 0 (omega arith))
    (omega arith)))

pub returns-else-node-self-clause-none : goal.returns-else-node-self-clause-none
returns-else-node-self-clause-none c =
    let listed = rw (← c.self.view_is) at c.requires in
    rw (← c.self.view_is) (none_first _ _ (here_none _ _ _ _ c.self.invariant c.args.list 0 c.next-node.result listed
    (c.next-node.ensures ∙ (c.self.invariant.rings c.args.list listed).forward 0 (omega arith)) (omega arith)))

pub returns-then-node-self-clause-few : goal.returns-then-node-self-clause-few
returns-then-node-self-clause-few c =
    let listed = rw (← c.self.view_is) at c.requires in
    rw (← c.self.view_is) (bounded _ _ _ _ c.self.invariant c.args.list listed)

pub returns-else-node-self-clause-few : goal.returns-else-node-self-clause-few
returns-else-node-self-clause-few c =
    let listed = rw (← c.self.view_is) at c.requires in
    rw (← c.self.view_is) (bounded _ _ _ _ c.self.invariant c.args.list listed)
