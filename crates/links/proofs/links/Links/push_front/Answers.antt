use Rattle.std.proofs.Common.{ap, arith}
use Rattle.std.specs.Prelude.{List, ℕ}
use Rattle.links.proofs.Calls.{first_below, pushed_front_leads}
use Rattle.links.proofs.Marks.{free_from_unheld}
use Rattle.links.proofs.links.Links.push_front.Goals as goal

pub insert-requires-clause-after : goal.insert-requires-clause-after
insert-requires-clause-after c =
    let listed = rw (← c.self.view_is) at c.requires.list in
    (omega (arith, c.self.invariant.previous_sized, first_below _ _ _ _ c.self.invariant c.args.list listed))

pub invariant_of-self : goal.invariant_of-self
invariant_of-self c =
    let listed = rw (← c.self.view_is) at c.requires.list in
    let node = rw (← c.self.view_is) at c.requires.node in
    let unheld = rw (← c.self.view_is) at c.requires.free in
    (pushed_front_leads _ _ _ _ c.self.invariant c.args.list c.args.node c.next-first.result listed node
    (free_from_unheld _ _ unheld) c.next-first.ensures c.insert.new.self.next.items c.insert.new.self.previous.items
    c.insert.ensures.next c.insert.ensures.previous).0

pub returns : goal.returns
returns c =
    let listed = rw (← c.self.view_is) at c.requires.list in
    let node = rw (← c.self.view_is) at c.requires.node in
    let unheld = rw (← c.self.view_is) at c.requires.free in
    rw (← c.self.view_is) (ap (λ (lists : List (List ℕ)). record { nodes = c.self.inside.nodes; lists = lists })
    (pushed_front_leads _ _ _ _ c.self.invariant c.args.list c.args.node c.next-first.result listed node
    (free_from_unheld _ _ unheld) c.next-first.ensures c.insert.new.self.next.items c.insert.new.self.previous.items
    c.insert.ensures.next c.insert.ensures.previous).1)
