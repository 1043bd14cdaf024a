use Rattle.std.proofs.Common.{◌+◌, ◌*◌, ap, refl}
use Rattle.std.specs.Prelude.{List, ℕ}
use Rattle.sym_base.specs.declared.number.ObjNo.{ObjNo}
use Rattle.cleanup.specs.contracts.cleanup.Cleanup.{the_view}
use Rattle.cleanup.specs.Lists.{is_object, is_logon}
use Rattle.cleanup.specs.Nodes.{object, logon}
use Rattle.cleanup.proofs.Logons.{logon_tells}
use Rattle.links.proofs.Seen.{seen_removed}
use Rattle.cleanup.proofs.cleanup.Cleanup.remove.Goals as goal

pub returns-in-Mutex : goal.returns-in-Mutex
returns-in-Mutex c =
    rw (← c.self.view_is, c.in-Mutex.is, c.remove.ensures)
    (ap (λ (lists : List (List ObjNo)). record (the_view c.self.inside) { mutexes = lists })
    (seen_removed object (is_object c.in-Mutex.o) c.in-Mutex.o.0 (λ m. refl) c.self.inside.mutexes.lists c.args.t.0))

pub returns-in-Server : goal.returns-in-Server
returns-in-Server c =
    rw (← c.self.view_is, c.in-Server.is, c.remove-in-Server.ensures)
    (ap (λ (lists : List (List ObjNo)). record (the_view c.self.inside) { servers = lists })
    (seen_removed object (is_object c.in-Server.o) c.in-Server.o.0 (λ m. refl) c.self.inside.servers.lists c.args.t.0))

pub returns-in-Logon : goal.returns-in-Logon
returns-in-Logon c =
    let known = rw (← c.self.view_is, c.in-Logon.is) at c.requires.known in
    rw (← c.self.view_is, c.in-Logon.is, c.remove-in-Logon.ensures, c.logon_item.ensures)
    (ap (λ (lists : List (List (ObjNo × ℕ))). record (the_view c.self.inside) { logons = lists })
    (seen_removed logon (is_logon c.in-Logon.u c.in-Logon.status) (16 * c.in-Logon.u.0 + c.in-Logon.status)
    (logon_tells c.in-Logon.u c.in-Logon.status known.1) c.self.inside.logons.lists c.args.t.0))
