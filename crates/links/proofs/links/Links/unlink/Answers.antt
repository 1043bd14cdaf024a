use Rattle.std.proofs.Common.{◌∙◌, ap, arith}
use Rattle.std.specs.Prelude.{List, ℕ}
use Rattle.links.proofs.Calls.{beside_below, unlinked_leads, without_is}
use Rattle.links.proofs.Marks.{unheld_from_free, listed_from}
use Rattle.links.proofs.links.Links.unlink.Goals as goal

pub remove-requires-clause-before : goal.remove-requires-clause-before
remove-requires-clause-before c =
    let held = rw (← c.self.view_is) at c.requires.linked in
    omega (arith, c.self.invariant.next_sized, (beside_below _ _ _ _ c.self.invariant c.args.node held).0)

pub remove-requires-clause-after : goal.remove-requires-clause-after
remove-requires-clause-after c =
    let held = rw (← c.self.view_is) at c.requires.linked in
    omega (arith, c.self.invariant.previous_sized, (beside_below _ _ _ _ c.self.invariant c.args.node held).1)

pub invariant_of-self : goal.invariant_of-self
invariant_of-self c =
    let held = rw (← c.self.view_is) at c.requires.linked in
    (unlinked_leads _ _ _ _ c.self.invariant c.args.node c.previous-before.result c.next-after.result held
    c.previous-before.ensures c.next-after.ensures c.remove.new.self.next.items c.remove.new.self.previous.items
    c.remove.ensures.next c.remove.ensures.previous).0.0

pub returns-clause-unlinked : goal.returns-clause-unlinked
returns-clause-unlinked c =
    let held = rw (← c.self.view_is) at c.requires.linked in
    rw (← c.self.view_is) (ap (λ (lists : List (List ℕ)). record { nodes = c.self.inside.nodes; lists = lists })
    (unlinked_leads _ _ _ _ c.self.invariant c.args.node c.previous-before.result c.next-after.result held
    c.previous-before.ensures c.next-after.ensures c.remove.new.self.next.items c.remove.new.self.previous.items
    c.remove.ensures.next c.remove.ensures.previous).0.1)

pub returns-clause-alone : goal.returns-clause-alone
returns-clause-alone c =
    let held = rw (← c.self.view_is) at c.requires.linked in
    let left = unlinked_leads _ _ _ _ c.self.invariant c.args.node c.previous-before.result c.next-after.result held
    c.previous-before.ensures c.next-after.ensures c.remove.new.self.next.items c.remove.new.self.previous.items
    c.remove.ensures.next c.remove.ensures.previous in
    rw (← c.self.view_is) (λ list place stands. ap
    (λ (lists : List (List ℕ)). record { nodes = c.self.inside.nodes; lists = lists })
    (left.0.1 ∙ without_is _ _ _ _ c.self.invariant list place c.args.node
    (listed_from _ list place c.args.node stands) stands))

pub returns-clause-free : goal.returns-clause-free
returns-clause-free c =
    let held = rw (← c.self.view_is) at c.requires.linked in
    let left = unlinked_leads _ _ _ _ c.self.invariant c.args.node c.previous-before.result c.next-after.result held
    c.previous-before.ensures c.next-after.ensures c.remove.new.self.next.items c.remove.new.self.previous.items
    c.remove.ensures.next c.remove.ensures.previous in
    rw left.0.1 (unheld_from_free _ c.args.node left.1)
