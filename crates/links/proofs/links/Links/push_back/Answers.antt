use Rattle.std.proofs.Common.{ap, arith}
use Rattle.std.specs.Prelude.{List, ℕ}
use Rattle.links.proofs.Calls.{last_below, pushed_back_leads}
use Rattle.links.proofs.Marks.{free_from_unheld}
use Rattle.links.proofs.links.Links.push_back.Goals as goal

pub insert-requires-clause-before : goal.insert-requires-clause-before
insert-requires-clause-before c =
    let listed = rw (← c.self.view_is) at c.requires.list in
    omega (arith, c.self.invariant.next_sized, last_below _ _ _ _ c.self.invariant c.args.list listed)

pub invariant_of-self : goal.invariant_of-self
invariant_of-self c =
    let listed = rw (← c.self.view_is) at c.requires.list in
    let node = rw (← c.self.view_is) at c.requires.node in
    let unheld = rw (← c.self.view_is) at c.requires.free in
    (pushed_back_leads _ _ _ _ c.self.invariant c.args.list c.args.node c.previous-last.result listed node
    (free_from_unheld _ _ unheld) c.previous-last.ensures c.insert.new.self.next.items c.insert.new.self.previous.items
    c.insert.ensures.next c.insert.ensures.previous).0

pub returns : goal.returns
returns c =
    let listed = rw (← c.self.view_is) at c.requires.list in
    let node = rw (← c.self.view_is) at c.requires.node in
    let unheld = rw (← c.self.view_is) at c.requires.free in
    rw (← c.self.view_is) (ap (λ (lists : List (List ℕ)). record { nodes = c.self.inside.nodes; lists = lists })
    (pushed_back_leads _ _ _ _ c.self.invariant c.args.list c.args.node c.previous-last.result listed node
    (free_from_unheld _ _ unheld) c.previous-last.ensures c.insert.new.self.next.items c.insert.new.self.previous.items
    c.insert.ensures.next c.insert.ensures.previous).1)
