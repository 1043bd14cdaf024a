use Rattle.std.proofs.Common.{◌∙◌, ap, not, sym}
use Rattle.state_rows.specs.declared.deferred.Item.TheVariants.{Move}
use Rattle.deferred.proofs.Keeping.{move_queued, immediate_added}
use Rattle.deferred.proofs.Nodes.{item_move}
use Rattle.deferred.proofs.queues.Deferred.add_from_irq.Goals as goal

pub returns-clause-answer : goal.returns-clause-answer
returns-clause-answer c =
    let known = rw (← c.self.view_is) at c.requires in
    rw (← c.self.view_is) (c.enqueue.ensures.answer
    ∙ ap not (sym (move_queued c.self.inside.idfcs c.self.inside.places.items c.self.inside.priorities.items
    c.self.inside.links c.self.invariant c.args.dfc known)))

pub returns-clause-after : goal.returns-clause-after
returns-clause-after c =
    let known = rw (← c.self.view_is) at c.requires in
    rw (← c.self.view_is, c.enqueue.ensures.after)
    (immediate_added c.self.inside.idfcs c.self.inside.places.items c.self.inside.priorities.items c.self.inside.links
    c.self.invariant c.args.dfc (Move c.args.dfc) (item_move _ _ known))
