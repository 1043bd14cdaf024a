use Rattle.std.proofs.Common.{refl, ap, length-set}
use Rattle.state_rows.specs.ServerRows.{link_of}
use Rattle.server_table.proofs.Keeping.{kept_rows, link_stays}
use Rattle.server_table.proofs.table.ServerTable.set_open.Goals as goal

pub invariant_of-self : goal.invariant_of-self
invariant_of-self c =
    let at = rw (← c.self.view_is) at c.row-row.ensures in
    kept_rows c.self.inside.servers.items c.self.inside.sessions.items c.self.inside.links c.self.invariant _ _ refl
    (length-set c.self.inside.sessions.items c.args.s.0 _)
    (link_stays c.self.inside.sessions.items c.args.s.0 _ (ap link_of at))
