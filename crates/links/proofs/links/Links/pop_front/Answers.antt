use Rattle.std.proofs.Common.{ap, sym, refl, ◌∙◌, arith, []}
use Rattle.std.specs.Prelude.{List, ℕ}
use Rattle.std.proofs.lemmas.List.{set-get_or}
use Rattle.links.specs.Rings.{lists_of}
use Rattle.links.proofs.Calls.{first_below, first_node, popped_leads, empty_first}
use Rattle.links.proofs.Marks.{none_first, unheld_from_free}
use Rattle.links.proofs.links.Links.pop_front.Goals as goal

pub returns-then-node-end-clause-first : goal.returns-then-node-end-clause-first
returns-then-node-end-clause-first c =
    let listed = rw (← c.self.view_is) at c.requires in
    let empty = empty_first _ _ _ _ c.self.invariant c.args.list c.next-node.result listed c.next-node.ensures c.if-node-end.true in
    rw (← c.self.view_is, empty) refl

pub returns-then-node-end-clause-popped : goal.returns-then-node-end-clause-popped
returns-then-node-end-clause-popped c =
    let listed = rw (← c.self.view_is) at c.requires in
    let empty = empty_first _ _ _ _ c.self.invariant c.args.list c.next-node.result listed c.next-node.ensures c.if-node-end.true in
    let lists = lists_of c.self.inside.nodes c.self.inside.neighbours.next.items in
    rw (← c.self.view_is, empty) (ap (λ (lists : List (List ℕ)). record { nodes = c.self.inside.nodes; lists = lists })
    (sym (set-get_or lists c.args.list []) ∙ rw empty refl))

pub next-after-requires : goal.next-after-requires
next-after-requires c =
    let listed = rw (← c.self.view_is) at c.requires in
    omega (arith, c.self.invariant.next_sized, first_below _ _ _ _ c.self.invariant c.args.list listed)

pub remove-requires-clause-after : goal.remove-requires-clause-after
remove-requires-clause-after c =
    let listed = rw (← c.self.view_is) at c.requires in
    let first = first_node _ _ _ _ c.self.invariant c.args.list c.next-node.result c.next-after.result listed
    c.next-node.ensures c.if-node-end.false c.next-after.ensures in
    omega (arith, c.self.invariant.previous_sized, first.behind)

pub remove-requires-clause-next_node : goal.remove-requires-clause-next_node
remove-requires-clause-next_node c =
    let listed = rw (← c.self.view_is) at c.requires in
    let first = first_node _ _ _ _ c.self.invariant c.args.list c.next-node.result c.next-after.result listed
    c.next-node.ensures c.if-node-end.false c.next-after.ensures in
    (omega (arith, c.self.invariant.next_sized, first.below))

pub remove-requires-clause-previous_node : goal.remove-requires-clause-previous_node
remove-requires-clause-previous_node c =
    let listed = rw (← c.self.view_is) at c.requires in
    let first = first_node _ _ _ _ c.self.invariant c.args.list c.next-node.result c.next-after.result listed
    c.next-node.ensures c.if-node-end.false c.next-after.ensures in
    omega (arith, c.self.invariant.previous_sized, first.below)

pub invariant_of-self : goal.invariant_of-self
invariant_of-self c =
    let listed = rw (← c.self.view_is) at c.requires in
    (popped_leads _ _ _ _ c.self.invariant c.args.list c.next-node.result c.next-after.result listed c.next-node.ensures
    c.if-node-end.false c.next-after.ensures c.remove.new.self.next.items c.remove.new.self.previous.items
    c.remove.ensures.next c.remove.ensures.previous).0.0

pub returns-clause-first : goal.returns-clause-first
returns-clause-first c =
    let listed = rw (← c.self.view_is) at c.requires in
    rw (← c.self.view_is) (first_node _ _ _ _ c.self.invariant c.args.list c.next-node.result c.next-after.result listed
    c.next-node.ensures c.if-node-end.false c.next-after.ensures).first

pub returns-clause-popped : goal.returns-clause-popped
returns-clause-popped c =
    let listed = rw (← c.self.view_is) at c.requires in
    rw (← c.self.view_is) (ap (λ (lists : List (List ℕ)). record { nodes = c.self.inside.nodes; lists = lists })
    (popped_leads _ _ _ _ c.self.invariant c.args.list c.next-node.result c.next-after.result listed c.next-node.ensures
    c.if-node-end.false c.next-after.ensures c.remove.new.self.next.items c.remove.new.self.previous.items
    c.remove.ensures.next c.remove.ensures.previous).0.1)

pub returns-clause-below : goal.returns-clause-below
returns-clause-below c =
    let listed = rw (← c.self.view_is) at c.requires in
    rw (← c.self.view_is) (first_node _ _ _ _ c.self.invariant c.args.list c.next-node.result c.next-after.result listed
    c.next-node.ensures c.if-node-end.false c.next-after.ensures).below

pub returns-clause-free : goal.returns-clause-free
returns-clause-free c =
    let listed = rw (← c.self.view_is) at c.requires in
    let left = popped_leads _ _ _ _ c.self.invariant c.args.list c.next-node.result c.next-after.result listed
    c.next-node.ensures c.if-node-end.false c.next-after.ensures c.remove.new.self.next.items
    c.remove.new.self.previous.items c.remove.ensures.next c.remove.ensures.previous in
    rw left.0.1 (unheld_from_free _ c.next-node.result left.1)

pub returns-then-node-end-clause-none : goal.returns-then-node-end-clause-none
returns-then-node-end-clause-none c =
    let listed = rw (← c.self.view_is) at c.requires in
    let empty = empty_first _ _ _ _ c.self.invariant c.args.list c.next-node.result listed c.next-node.ensures c.if-node-end.true in
    rw (← c.self.view_is, empty) (λ none. refl, λ none. refl)

pub returns-clause-none : goal.returns-clause-none
returns-clause-none c =
    let listed = rw (← c.self.view_is) at c.requires in
    rw (← c.self.view_is) (none_first _ _ (first_node _ _ _ _ c.self.invariant c.args.list c.next-node.result
    c.next-after.result listed c.next-node.ensures c.if-node-end.false c.next-after.ensures).first)
