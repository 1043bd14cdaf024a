use Rattle.std.proofs.Common.{◌≡◌, ◌∙◌, suc, sym, arith}
use Rattle.deferred.proofs.Keeping.{next_is, stands_in}
use Rattle.deferred.proofs.queues.Deferred.first_dfc.Goals as goal

pub overflow_cast-result : goal.overflow_cast-result
overflow_cast-result c =
    let list : c.list_of.result ≡ suc c.args.queue = omega (arith, c.list_of.ensures) in
    let first = rw list at c.in_ok-node.ensures.first in
    let at = stands_in c.self.inside.idfcs c.self.inside.places.items c.self.inside.priorities.items c.self.inside.links
    c.self.invariant _ c.args.queue c.in_ok-node.node (sym first) in
    omega (arith, at.low, c.self.invariant.few)

pub returns-clause-first : goal.returns-clause-first
returns-clause-first c =
    let list : c.list_of.result ≡ suc c.args.queue = omega (arith, c.list_of.ensures) in
    let first = rw (list, c.deref.ensures.value) at c.in_ok-node.ensures.first in
    rw (← c.self.view_is) (first ∙ next_is c.self.inside.idfcs c.self.inside.places.items c.self.inside.priorities.items
    c.self.inside.links c.self.invariant c.args.queue)

pub returns-clause-known : goal.returns-clause-known
returns-clause-known c =
    let list : c.list_of.result ≡ suc c.args.queue = omega (arith, c.list_of.ensures) in
    let first = rw list at c.in_ok-node.ensures.first in
    let at = stands_in c.self.inside.idfcs c.self.inside.places.items c.self.inside.priorities.items c.self.inside.links
    c.self.invariant _ c.args.queue c.in_ok-node.node (sym first) in
    rw (← c.self.view_is) at.low
