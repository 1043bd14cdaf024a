use Rattle.std.proofs.Common.{sym, length-set}
use Rattle.std.specs.Prelude.{None}
use Rattle.server_table.proofs.Keeping.{kept_rows, link_stays, rows_swept}
use Rattle.server_table.proofs.table.ServerTable.sweep.Goals as goal

pub returns : goal.returns
returns c =
    let alone = rw (← c.self.view_is) at c.requires.alone in
    rw (← c.self.view_is) (rows_swept c.self.inside.servers.items c.self.inside.sessions.items c.self.inside.links c.args.o alone.no_session)

pub invariant_of-self : goal.invariant_of-self
invariant_of-self c =
    let alone = rw (← c.self.view_is) at c.requires.alone in
    kept_rows c.self.inside.servers.items c.self.inside.sessions.items c.self.inside.links c.self.invariant _ _
    (length-set c.self.inside.servers.items c.args.o.0 _) (length-set c.self.inside.sessions.items c.args.o.0 _)
    (link_stays c.self.inside.sessions.items c.args.o.0 None (sym alone.no_server))
