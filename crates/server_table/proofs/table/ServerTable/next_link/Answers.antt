use Rattle.std.proofs.Common.{◌∙◌, sym}
use Rattle.links.specs.Linked.{list_at}
use Rattle.links.proofs.Marks.{none_first}
use Rattle.server_table.proofs.Numbers.{holds_at}
use Rattle.server_table.proofs.Sessions.{first_session}
use Rattle.server_table.proofs.table.ServerTable.next_link.Goals as goal

pub returns-clause-first : goal.returns-clause-first
returns-clause-first c =
    rw (← c.self.view_is) (first_session c.self.inside.links.lists c.args.server.0 _ c.in_ok-node.ensures.first)

pub returns-clause-none : goal.returns-clause-none
returns-clause-none c =
    rw (← c.self.view_is) (none_first _ _ (first_session c.self.inside.links.lists c.args.server.0 _ c.in_ok-node.ensures.first))

pub returns-clause-linked : goal.returns-clause-linked
returns-clause-linked c =
    let held = holds_at (list_at c.self.inside.links c.args.server.0) 0 c.in_ok-node.node (sym c.in_ok-node.ensures.first) in
    rw (← c.self.view_is) (c.self.invariant.linked c.args.server.0 c.in_ok-node.node held)

pub returns-in_err-node-clause-first : goal.returns-in_err-node-clause-first
returns-in_err-node-clause-first c =
    rw (← c.self.view_is) (c.from_residual.ensures ∙ first_session c.self.inside.links.lists c.args.server.0 _ c.in_err-node.ensures.first)

pub returns-in_err-node-clause-none : goal.returns-in_err-node-clause-none
returns-in_err-node-clause-none c =
    rw (← c.self.view_is) (none_first _ _ (c.from_residual.ensures ∙ first_session c.self.inside.links.lists c.args.server.0 _ c.in_err-node.ensures.first))
