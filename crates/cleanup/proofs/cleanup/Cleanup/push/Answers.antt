use Rattle.std.proofs.Common.{◌∙◌, ◌+◌, ◌*◌, ap, refl}
use Rattle.std.specs.Prelude.{List, ℕ}
use Rattle.sym_base.specs.declared.number.ObjNo.{ObjNo}
use Rattle.cleanup.specs.contracts.cleanup.Cleanup.{the_view}
use Rattle.cleanup.specs.Lists.{is_object, is_logon}
use Rattle.cleanup.specs.Nodes.{object, logon}
use Rattle.cleanup.proofs.Logons.{logon_at, logon_tells}
use Rattle.links.proofs.Seen.{seen_any, seen_pushed}
use Rattle.cleanup.proofs.cleanup.Cleanup.push.Goals as goal

pub push-requires-clause-free : goal.push-requires-clause-free
push-requires-clause-free c =
    let place = rw (← c.self.view_is, c.in-Mutex.is) at c.requires.place in
    λ linked. place (seen_any object (is_object c.in-Mutex.o) c.in-Mutex.o.0 (λ m. refl) c.self.inside.mutexes.lists ∙ linked)

pub push-requires-in-Server-clause-free : goal.push-requires-in-Server-clause-free
push-requires-in-Server-clause-free c =
    let place = rw (← c.self.view_is, c.in-Server.is) at c.requires.place in
    λ linked. place (seen_any object (is_object c.in-Server.o) c.in-Server.o.0 (λ m. refl) c.self.inside.servers.lists ∙ linked)

pub push-requires-in-Logon-clause-free : goal.push-requires-in-Logon-clause-free
push-requires-in-Logon-clause-free c =
    let known = rw (← c.self.view_is, c.in-Logon.is) at c.requires.known in
    let place = rw (← c.self.view_is, c.in-Logon.is) at c.requires.place in
    rw c.logon_item.ensures (λ linked. place
    (seen_any logon (is_logon c.in-Logon.u c.in-Logon.status) (16 * c.in-Logon.u.0 + c.in-Logon.status)
    (logon_tells c.in-Logon.u c.in-Logon.status known.1) c.self.inside.logons.lists ∙ linked))

pub returns-in-Mutex : goal.returns-in-Mutex
returns-in-Mutex c =
    rw (← c.self.view_is, c.in-Mutex.is, c.push.ensures)
    (ap (λ (lists : List (List ObjNo)). record (the_view c.self.inside) { mutexes = lists })
    (seen_pushed object c.in-Mutex.o.0 c.in-Mutex.o refl c.self.inside.mutexes.lists c.args.t.0))

pub returns-in-Server : goal.returns-in-Server
returns-in-Server c =
    rw (← c.self.view_is, c.in-Server.is, c.push-in-Server.ensures)
    (ap (λ (lists : List (List ObjNo)). record (the_view c.self.inside) { servers = lists })
    (seen_pushed object c.in-Server.o.0 c.in-Server.o refl c.self.inside.servers.lists c.args.t.0))

pub returns-in-Logon : goal.returns-in-Logon
returns-in-Logon c =
    let known = rw (← c.self.view_is, c.in-Logon.is) at c.requires.known in
    rw (← c.self.view_is, c.in-Logon.is, c.push-in-Logon.ensures, c.logon_item.ensures)
    (ap (λ (lists : List (List (ObjNo × ℕ))). record (the_view c.self.inside) { logons = lists })
    (seen_pushed logon (16 * c.in-Logon.u.0 + c.in-Logon.status) (c.in-Logon.u, c.in-Logon.status)
    (logon_at c.in-Logon.u c.in-Logon.status known.1) c.self.inside.logons.lists c.args.t.0))
