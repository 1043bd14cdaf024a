use Rattle.std.proofs.Common.{◌∙◌, ap}
use Rattle.std.specs.Prelude.{List}
use Rattle.sym_base.specs.declared.number.ObjNo.{ObjNo}
use Rattle.ready_list.proofs.Keeping.{added_kept}
use Rattle.ready_list.proofs.Threads.{any_thread, queue_added}
use Rattle.ready_list.proofs.ready.ReadyList.add.Goals as goal

pub push_back-requires-clause-free : goal.push_back-requires-clause-free
push_back-requires-clause-free c =
    let fresh = rw (← c.self.view_is) at c.requires.fresh in
    λ linked. fresh (any_thread c.args.t c.self.inside.links.lists ∙ linked)

pub invariant_of-self : goal.invariant_of-self
invariant_of-self c =
    let known = rw (← c.self.view_is) at c.requires.thread in
    let fresh = rw (← c.self.view_is) at c.requires.fresh in
    rw c.push_back.ensures (added_kept c.self.inside.threads c.self.inside.links c.self.inside.priorities.items
    c.self.inside.mask c.self.invariant c.args.t.0 c.args.priority _ known c.requires.priority
    (λ linked. fresh (any_thread c.args.t c.self.inside.links.lists ∙ linked)) c.with_bit-self-inside.ensures.own
    c.with_bit-self-inside.ensures.others)

pub returns : goal.returns
returns c =
    rw (← c.self.view_is, c.push_back.ensures)
    (ap (λ (queues : List (List ObjNo)). record { threads = c.self.inside.threads; queues = queues })
    (queue_added c.self.inside.links.lists c.args.priority c.args.t))
