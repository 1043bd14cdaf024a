use Rattle.std.proofs.Common.{◌≡◌, length, arith}
use Rattle.deferred.proofs.Keeping.{node_free, popped_kept}
use Rattle.deferred.proofs.queues.Deferred.next_idfc.Goals as goal

pub returns-clause-free : goal.returns-clause-free
returns-clause-free c =
    let sized : c.len.result ≡ length c.self.inside.places.items = omega (arith, c.len.ensures) in
    rw (c.item_of.ensures, sized) (node_free c.self.inside.idfcs c.self.inside.places.items
    c.self.inside.priorities.items c.pop_front.new.self
    (rw c.in_ok-node.ensures.popped (popped_kept c.self.inside.idfcs c.self.inside.places.items
    c.self.inside.priorities.items c.self.inside.links c.self.invariant)) c.in_ok-node.node c.in_ok-node.ensures.free)
