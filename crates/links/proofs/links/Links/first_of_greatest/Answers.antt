use Rattle.std.proofs.Common.{◌<◌, ◌+◌, ℕ, [], get_or, drop, sym, ap, ◌∙◌, arith}
use Rattle.std.proofs.lemmas.Option.{slice_get_within}
use Rattle.sym_base.specs.Greatest.{unless_greater, first_of_greatest}
use Rattle.links.specs.Linked.{list_at, IsLinked}
use Rattle.links.specs.Rings.{lists_of}
use Rattle.links.proofs.Choice.{chosen_on, chosen_at, chosen_keeps}
use Rattle.links.proofs.Marks.{held_at}
use Rattle.links.proofs.Walks.{bounded}
use Rattle.links.proofs.links.Links.first_of_greatest.Goals as goal

pub loop-place-init : goal.loop-place-init
loop-place-init c =
    let at = sym c.in_ok-node.ensures.first in
    record {
      at = at;
      linked = held_at c.args.self.now.lists c.args.list 0 c.in_ok-node.node at;
      node_below = c.in_ok-node.ensures.below;
      below = c.in_ok-node.ensures.below;
      rest = chosen_at (λ node. get_or c.args.weights.now node 0) (list_at c.args.self.now c.args.list) 0 c.in_ok-node.node at;
    }

pub next-requires : goal.next-requires
next-requires c =
    held_at c.args.self.now.lists c.args.list c.loop-place.place c.loop-place.node c.loop-place.invariant.at

pub loop-place-preserved : goal.loop-place-preserved
loop-place-preserved c =
    let weight = λ (node : ℕ). get_or c.args.weights.now node 0 in
    let list = list_at c.args.self.now c.args.list in
    let known = c.loop-place.invariant in
    let at = sym (c.in-Some.ensures.follower c.args.list c.loop-place.place known.at) in
    let held = held_at c.args.self.now.lists c.args.list (c.loop-place.place + 1) c.in-Some.after at in
    let is = c.heavier-best.ensures in
    record {
      at = at;
      linked = chosen_keeps weight (λ node. IsLinked c.args.self.now node) c.loop-place.best c.in-Some.after c.heavier-best.result is known.linked held;
      node_below = c.in-Some.ensures.below;
      below =
          chosen_keeps weight (λ node. node < c.args.self.now.nodes) c.loop-place.best c.in-Some.after c.heavier-best.result
          is known.below c.in-Some.ensures.below;
      rest =
          known.rest
          ∙ ap (unless_greater weight c.loop-place.best) (chosen_at weight list (c.loop-place.place + 1) c.in-Some.after at)
          ∙ chosen_on weight c.loop-place.best c.in-Some.after c.heavier-best.result
          (first_of_greatest weight (drop (c.loop-place.place + 1 + 1) list)) is;
    }

pub returns-clause-first : goal.returns-clause-first
returns-clause-first c =
    let listed = rw (← c.self.view_is) at c.requires.list in
    let at = rw (← c.self.view_is) at c.loop-place.invariant.at in
    let lists = lists_of c.self.inside.nodes c.self.inside.neighbours.next.items in
    absurd (omega (
      arith,
      slice_get_within (get_or lists c.args.list []) c.loop-place.place c.loop-place.node at,
      bounded _ _ _ _ c.self.invariant c.args.list listed,
      c.loop-place-test.false,
    ))
