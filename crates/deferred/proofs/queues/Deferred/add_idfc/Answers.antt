use Rattle.std.proofs.Common.{◌∙◌, ap, not, sym, arith}
use Rattle.state_rows.specs.declared.deferred.Item.TheVariants.{Idfc}
use Rattle.deferred.proofs.Keeping.{idfc_queued, immediate_added}
use Rattle.deferred.proofs.Nodes.{item_idfc}
use Rattle.deferred.proofs.queues.Deferred.add_idfc.Goals as goal

pub returns-clause-answer : goal.returns-clause-answer
returns-clause-answer c =
    rw (← c.self.view_is) (c.enqueue.ensures.answer
    ∙ ap not (sym (idfc_queued c.self.inside.idfcs c.self.inside.places.items c.self.inside.priorities.items
    c.self.inside.links c.self.invariant c.args.item _ (omega (arith, c.len.ensures)))))

pub returns-clause-after : goal.returns-clause-after
returns-clause-after c =
    rw (← c.self.view_is, c.enqueue.ensures.after)
    (immediate_added c.self.inside.idfcs c.self.inside.places.items c.self.inside.priorities.items c.self.inside.links
    c.self.invariant _ (Idfc c.args.item) (item_idfc _ c.args.item _ (omega (arith, c.len.ensures))))
