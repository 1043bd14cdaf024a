use Rattle.std.proofs.Common.{ap, drop}
use Rattle.std.specs.Prelude.{List}
use Rattle.sym_base.specs.declared.number.ObjNo.{ObjNo}
use Rattle.links.specs.Linked.{list_at}
use Rattle.ready_list.proofs.Keeping.{is_turned, turned_kept}
use Rattle.ready_list.proofs.Threads.{queue_turned}
use Rattle.ready_list.proofs.ready.ReadyList.rotate.Goals as goal

pub invariant_of-self : goal.invariant_of-self
invariant_of-self c =
    let is = is_turned c.self.inside.threads c.self.inside.links c.self.inside.priorities.items c.self.inside.mask
    c.self.invariant c.args.priority c.in-Some.first c.pop_front.new.self c.push_back.new.self c.requires
    c.in-Some.ensures.first c.pop_front.ensures.popped c.push_back.ensures in
    rw is.1 (turned_kept c.self.inside.threads c.self.inside.links c.self.inside.priorities.items c.self.inside.mask
    c.self.invariant c.args.priority c.in-Some.first
    (drop 1 (list_at c.self.inside.links c.args.priority)) c.requires is.0)

pub returns-in-Some : goal.returns-in-Some
returns-in-Some c =
    let is = is_turned c.self.inside.threads c.self.inside.links c.self.inside.priorities.items c.self.inside.mask
    c.self.invariant c.args.priority c.in-Some.first c.pop_front.new.self c.push_back.new.self c.requires
    c.in-Some.ensures.first c.pop_front.ensures.popped c.push_back.ensures in
    rw (← c.self.view_is, is.1) (ap (λ (queues : List (List ObjNo)). record
    { threads = c.self.inside.threads; queues = queues })
    (queue_turned c.self.inside.links.lists c.args.priority c.in-Some.first
    (drop 1 (list_at c.self.inside.links c.args.priority)) is.0))
