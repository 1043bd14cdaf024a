use Rattle.links.proofs.Marks.{held_at}
use Rattle.kern_sync.proofs.Waiting.{best_stands, best_left, with_list_kept, waits_not}
use Rattle.kern_sync.proofs.sync.KernSync.take_best.Goals as goal

pub unlink-requires-clause-linked : goal.unlink-requires-clause-linked
unlink-requires-clause-linked c =
    let at = best_stands c.self.inside.owners.items c.self.inside.counts.items c.self.inside.priorities.items
    c.self.inside.links c.self.invariant c.args.o c.in_ok-t.t (rw (← c.self.view_is) at c.in_ok-t.ensures.best) in
    held_at c.self.inside.links.lists c.args.o.0 at.0 c.in_ok-t.t.0 at.1

pub invariant_of-self : goal.invariant_of-self
invariant_of-self c =
    let at = best_stands c.self.inside.owners.items c.self.inside.counts.items c.self.inside.priorities.items
    c.self.inside.links c.self.invariant c.args.o c.in_ok-t.t (rw (← c.self.view_is) at c.in_ok-t.ensures.best) in
    rw (c.unlink.ensures.alone c.args.o.0 at.0 at.1)
    (with_list_kept c.self.inside.owners.items c.self.inside.counts.items c.self.inside.priorities.items
    c.self.inside.links c.self.invariant c.args.o.0 _)

pub returns-clause-after : goal.returns-clause-after
returns-clause-after c =
    let best = rw (← c.self.view_is) at c.in_ok-t.ensures.best in
    let at = best_stands c.self.inside.owners.items c.self.inside.counts.items c.self.inside.priorities.items
    c.self.inside.links c.self.invariant c.args.o c.in_ok-t.t best in
    rw (← c.self.view_is, c.unlink.ensures.alone c.args.o.0 at.0 at.1)
    (best_left c.self.inside.owners.items c.self.inside.counts.items c.self.inside.priorities.items c.self.inside.links
    c.self.invariant c.args.o c.in_ok-t.t best)

pub returns-clause-woken : goal.returns-clause-woken
returns-clause-woken c = (
  c.in_ok-t.ensures.known,
  waits_not c.self.inside.owners.items c.self.inside.counts.items
      c.self.inside.priorities.items c.unlink.new.self c.in_ok-t.t c.unlink.ensures.free,
)
