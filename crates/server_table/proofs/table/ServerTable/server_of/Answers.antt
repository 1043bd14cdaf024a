use Rattle.std.proofs.Common.{◌∙◌, ap}
use Rattle.std.specs.Prelude.{None}
use Rattle.std.proofs.lemmas.List.{get_or_read}
use Rattle.state_rows.specs.ServerRows.{link_of}
use Rattle.server_table.proofs.Keeping.{server_known, server_tells}
use Rattle.server_table.proofs.Numbers.{some_below}
use Rattle.server_table.proofs.table.ServerTable.server_of.Goals as goal

pub returns-clause-linked : goal.returns-clause-linked
returns-clause-linked c =
    let below = some_below c.self.inside.sessions.items c.args.s.0 (rw (← c.self.view_is) at c.requires) in
    let read = get_or_read c.self.inside.sessions.items c.args.s.0 c.index.result.now below c.index.ensures None in
    rw (← c.self.view_is) (λ server. server_tells c.self.inside.servers.items c.self.inside.sessions.items
    c.self.inside.links c.self.invariant c.args.s server c.link_of_row.result (c.link_of_row.ensures ∙ ap link_of read))

pub returns-clause-known : goal.returns-clause-known
returns-clause-known c =
    let below = some_below c.self.inside.sessions.items c.args.s.0 (rw (← c.self.view_is) at c.requires) in
    let read = get_or_read c.self.inside.sessions.items c.args.s.0 c.index.result.now below c.index.ensures None in
    rw (← c.self.view_is) (server_known c.self.inside.servers.items c.self.inside.sessions.items c.self.inside.links
    c.self.invariant c.args.s c.link_of_row.result (c.link_of_row.ensures ∙ ap link_of read))
