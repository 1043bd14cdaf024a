use Rattle.std.proofs.Common.{refl, arith, length-set}
use Rattle.server_table.proofs.Keeping.{kept_added, unlinked_free, rows_added}
use Rattle.server_table.proofs.Numbers.{some_below}
use Rattle.server_table.proofs.table.ServerTable.add_session.Goals as goal

pub push_back-requires-clause-list : goal.push_back-requires-clause-list
push_back-requires-clause-list c =
    let below = some_below c.self.inside.servers.items c.args.server.0 (rw (← c.self.view_is) at c.requires.server) in
    omega (arith, below, c.self.invariant.lists, c.self.invariant.servers_sized)

pub push_back-requires-clause-free : goal.push_back-requires-clause-free
push_back-requires-clause-free c =
    let alone = rw (← c.self.view_is) at c.requires.alone in
    unlinked_free c.self.inside.servers.items c.self.inside.sessions.items c.self.inside.links c.self.invariant c.args.s.0 alone.no_server

pub invariant_of-self : goal.invariant_of-self
invariant_of-self c =
    let alone = rw (← c.self.view_is) at c.requires.alone in
    let object = rw (← c.self.view_is) at c.requires.object in
    let below = some_below c.self.inside.servers.items c.args.server.0 (rw (← c.self.view_is) at c.requires.server) in
    rw c.push_back.ensures (kept_added c.self.inside.servers.items c.self.inside.sessions.items c.self.inside.links
    c.self.invariant _ c.args.s.0 c.args.server.0 _ (length-set c.self.inside.servers.items c.args.s.0 _)
    (omega (arith, object, c.self.invariant.sessions_sized, c.self.invariant.servers_sized))
    (omega (arith, below, c.self.invariant.lists, c.self.invariant.servers_sized)) alone.no_server refl)

pub returns : goal.returns
returns c =
    rw (← c.self.view_is, c.push_back.ensures)
    (rows_added c.self.inside.servers.items c.self.inside.sessions.items c.self.inside.links c.args.s c.args.server
    c.args.slots c.args.client)
