use Rattle.std.proofs.Common.{◌≡◌, ◌∙◌, suc, ap, not, sym, arith}
use Rattle.deferred.proofs.Keeping.{move_queued, own_added, enqueued_kept, home_of}
use Rattle.deferred.proofs.queues.Deferred.add.Goals as goal

pub invariant_of-self : goal.invariant_of-self
invariant_of-self c =
    let known = rw (← c.self.view_is) at c.requires in
    let home = home_of c.self.inside.idfcs c.self.inside.places.items c.self.inside.priorities.items c.self.inside.links
    c.self.invariant c.args.dfc c.index-place.result.now known c.index-place.ensures in
    rw c.enqueue.ensures.after (enqueued_kept c.self.inside.idfcs c.self.inside.places.items
    c.self.inside.priorities.items c.self.inside.links c.self.invariant c.list_of.result c.args.dfc
    (omega (arith, c.list_of.ensures, home.1)) (λ _ _. known))

pub returns-clause-answer : goal.returns-clause-answer
returns-clause-answer c =
    let known = rw (← c.self.view_is) at c.requires in
    rw (← c.self.view_is) (c.enqueue.ensures.answer
    ∙ ap not (sym (move_queued c.self.inside.idfcs c.self.inside.places.items c.self.inside.priorities.items
    c.self.inside.links c.self.invariant c.args.dfc known)))

pub returns-clause-after : goal.returns-clause-after
returns-clause-after c =
    let known = rw (← c.self.view_is) at c.requires in
    let home = home_of c.self.inside.idfcs c.self.inside.places.items c.self.inside.priorities.items c.self.inside.links
    c.self.invariant c.args.dfc c.index-place.result.now known c.index-place.ensures in
    let list : c.list_of.result ≡ suc c.index-place.result.now.queue = omega (arith, c.list_of.ensures) in
    rw (← c.self.view_is, c.enqueue.ensures.after, list, ← home.0)
    (own_added c.self.inside.idfcs c.self.inside.places.items c.self.inside.priorities.items c.self.inside.links
    c.self.invariant c.index-place.result.now.queue c.args.dfc known)
