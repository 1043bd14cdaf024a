use Rattle.std.proofs.Common.{true, false, arith}
use Rattle.std.specs.Prelude.{Some, None}
use Rattle.cleanup.proofs.Next.{behind_seen, none_seen, owned_held, walk_seen}
use Rattle.cleanup.proofs.cleanup.Cleanup.next_server.Goals as goal

pub next-requires : goal.next-requires
next-requires c =
    let known = rw (← c.self.view_is) at c.requires.thread in
    let own = rw (← c.self.view_is) at (c.requires.own c.in-Some.o c.in-Some.is) in
    owned_held c.self.inside.servers.lists c.args.t.0 c.in-Some.o (omega (arith, c.self.invariant.servers_sized)) own

pub returns-in_err-item-2 : goal.returns-in_err-item-2
returns-in_err-item-2 c =
    let known = rw (← c.self.view_is) at c.requires.thread in
    let own = rw (← c.self.view_is) at (c.requires.own c.in-Some.o c.in-Some.is) in
    rw (← c.self.view_is, c.in-Some.is, c.from_residual-in_err-item-2.ensures) (record {
      next = behind_seen c.self.inside.servers.lists c.args.t.0 c.in-Some.o None own c.in_err-item-2.ensures.follower;
      none = none_seen c.self.inside.servers.lists c.args.t.0 c.in-Some.o false c.in_err-item-2.ensures.none;
      walk = walk_seen c.self.inside.servers.lists c.args.t.0 c.in-Some.o None c.in_err-item-2.ensures.follower;
    })

pub returns : goal.returns
returns c =
    let known = rw (← c.self.view_is) at c.requires.thread in
    let own = rw (← c.self.view_is) at (c.requires.own c.in-Some.o c.in-Some.is) in
    rw (← c.self.view_is, c.in-Some.is) (record {
      next = behind_seen c.self.inside.servers.lists c.args.t.0 c.in-Some.o (Some c.in_ok-item-2.item) own c.in_ok-item-2.ensures.follower;
      none = none_seen c.self.inside.servers.lists c.args.t.0 c.in-Some.o true c.in_ok-item-2.ensures.none;
      walk = walk_seen c.self.inside.servers.lists c.args.t.0 c.in-Some.o (Some c.in_ok-item-2.item) c.in_ok-item-2.ensures.follower;
    })
