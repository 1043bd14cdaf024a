use Rattle.std.proofs.Common.{◌∙◌, get_or, refl, sym, ap, arith}
use Rattle.std.specs.Prelude.{None}
use Rattle.links.proofs.Marks.{held_at}
use Rattle.state_rows.specs.ServerRows.{link_of, session_at}
use Rattle.server_table.specs.Kept.{link_at}
use Rattle.server_table.proofs.Keeping.{kept_left, linked_server, linked_session, linked_stands, rows_left}
use Rattle.server_table.proofs.Numbers.{some_below}
use Rattle.server_table.proofs.table.ServerTable.detach.Goals as goal

pub row-row-requires : goal.row-row-requires
row-row-requires c = linked_session (session_at c.args.self.now c.args.s) c.requires

pub unlink-requires-clause-node : goal.unlink-requires-clause-node
unlink-requires-clause-node c =
    let below = some_below c.self.inside.sessions.items c.args.s.0
    (linked_session (get_or c.self.inside.sessions.items c.args.s.0 None) (rw (← c.self.view_is) at c.requires)) in
    omega (arith, below, c.self.invariant.sessions_sized)

pub unlink-requires-clause-linked : goal.unlink-requires-clause-linked
unlink-requires-clause-linked c =
    let server = linked_server (link_at c.self.inside.sessions.items c.args.s.0) (rw (← c.self.view_is) at c.requires) in
    let stands = linked_stands c.self.inside.servers.items c.self.inside.sessions.items c.self.inside.links c.self.invariant c.args.s.0 server.0.0 server.1 in
    held_at c.self.inside.links.lists server.0.0 stands.0 c.args.s.0 stands.1

pub invariant_of-self : goal.invariant_of-self
invariant_of-self c =
    let below = some_below c.self.inside.sessions.items c.args.s.0
    (linked_session (get_or c.self.inside.sessions.items c.args.s.0 None) (rw (← c.self.view_is) at c.requires)) in
    let server = linked_server (link_at c.self.inside.sessions.items c.args.s.0) (rw (← c.self.view_is) at c.requires) in
    let stands = linked_stands c.self.inside.servers.items c.self.inside.sessions.items c.self.inside.links c.self.invariant c.args.s.0 server.0.0 server.1 in
    rw (c.unlink.ensures.alone server.0.0 stands.0 stands.1)
    (kept_left c.self.inside.servers.items c.self.inside.sessions.items c.self.inside.links c.self.invariant c.args.s.0
    server.0.0 _ below server.1 refl)

pub returns : goal.returns
returns c =
    let at = rw (← c.self.view_is) at c.row-row.ensures in
    let server = linked_server (link_at c.self.inside.sessions.items c.args.s.0) (rw (← c.self.view_is) at c.requires) in
    let stands = linked_stands c.self.inside.servers.items c.self.inside.sessions.items c.self.inside.links c.self.invariant c.args.s.0 server.0.0 server.1 in
    rw (← c.self.view_is, c.unlink.ensures.alone server.0.0 stands.0 stands.1)
    (rows_left c.self.inside.servers.items c.self.inside.sessions.items c.self.inside.links c.args.s server.0
    c.row-row.result (sym at) (ap link_of at ∙ server.1))
