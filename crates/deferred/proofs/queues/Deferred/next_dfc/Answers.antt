use Rattle.std.proofs.Common.{suc}
use Rattle.links.proofs.Marks.{held_at, listed_from}
use Rattle.deferred.proofs.Keeping.{next_stands, own_taken, without_kept, move_free}
use Rattle.deferred.proofs.queues.Deferred.next_dfc.Goals as goal

pub unlink-requires-clause-linked : goal.unlink-requires-clause-linked
unlink-requires-clause-linked c =
    let at = next_stands c.self.inside.idfcs c.self.inside.places.items c.self.inside.priorities.items
    c.self.inside.links c.self.invariant c.args.queue c.in_ok-dfc.dfc
    (rw (← c.self.view_is) at c.in_ok-dfc.ensures.first) in
    held_at c.self.inside.links.lists (suc c.args.queue) at.place c.in_ok-dfc.dfc at.at

pub invariant_of-self : goal.invariant_of-self
invariant_of-self c =
    let at = next_stands c.self.inside.idfcs c.self.inside.places.items c.self.inside.priorities.items
    c.self.inside.links c.self.invariant c.args.queue c.in_ok-dfc.dfc
    (rw (← c.self.view_is) at c.in_ok-dfc.ensures.first) in
    rw (c.unlink.ensures.alone (suc c.args.queue) at.place at.at)
    (without_kept c.self.inside.idfcs c.self.inside.places.items c.self.inside.priorities.items c.self.inside.links
    c.self.invariant c.args.queue c.in_ok-dfc.dfc
    (listed_from c.self.inside.links.lists (suc c.args.queue) at.place c.in_ok-dfc.dfc at.at))

pub returns-clause-after : goal.returns-clause-after
returns-clause-after c =
    let first = rw (← c.self.view_is) at c.in_ok-dfc.ensures.first in
    let at = next_stands c.self.inside.idfcs c.self.inside.places.items c.self.inside.priorities.items
    c.self.inside.links c.self.invariant c.args.queue c.in_ok-dfc.dfc first in
    rw (← c.self.view_is, c.unlink.ensures.alone (suc c.args.queue) at.place at.at)
    (own_taken c.self.inside.idfcs c.self.inside.places.items c.self.inside.priorities.items c.self.inside.links
    c.self.invariant c.args.queue c.in_ok-dfc.dfc first)

pub returns-clause-free : goal.returns-clause-free
returns-clause-free c =
    let at = next_stands c.self.inside.idfcs c.self.inside.places.items c.self.inside.priorities.items
    c.self.inside.links c.self.invariant c.args.queue c.in_ok-dfc.dfc
    (rw (← c.self.view_is) at c.in_ok-dfc.ensures.first) in
    let inside = listed_from c.self.inside.links.lists (suc c.args.queue) at.place c.in_ok-dfc.dfc at.at in
    move_free c.self.inside.idfcs c.self.inside.places.items c.self.inside.priorities.items c.unlink.new.self
    (rw (c.unlink.ensures.alone (suc c.args.queue) at.place at.at)
    (without_kept c.self.inside.idfcs c.self.inside.places.items c.self.inside.priorities.items c.self.inside.links
    c.self.invariant c.args.queue c.in_ok-dfc.dfc inside)) c.in_ok-dfc.dfc at.low c.unlink.ensures.free
