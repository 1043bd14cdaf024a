use Rattle.std.proofs.Common.{◌∙◌, ap, not, sym, arith}
use Rattle.std.specs.Prelude.{List}
use Rattle.std.proofs.lemmas.List.{length-map}
use Rattle.sym_base.specs.declared.number.ObjNo.{ObjNo}
use Rattle.links.specs.Linked.{without}
use Rattle.ready_list.proofs.Keeping.{stands_read, emptied_kept, remaining_kept}
use Rattle.ready_list.proofs.Threads.{both_tests, any_thread, all_without_thread}
use Rattle.ready_list.proofs.ready.ReadyList.remove.Goals as goal

pub unlink-requires-clause-linked : goal.unlink-requires-clause-linked
unlink-requires-clause-linked c =
    sym (any_thread c.args.t c.self.inside.links.lists) ∙ rw (← c.self.view_is) at c.requires.ready

pub first-requires : goal.first-requires
first-requires c =
    let known = rw (← c.self.view_is) at c.requires.thread in
    let held = sym (any_thread c.args.t c.self.inside.links.lists) ∙ rw (← c.self.view_is) at c.requires.ready in
    let stands = stands_read c.self.inside.threads c.self.inside.links c.self.inside.priorities.items c.self.inside.mask
    c.self.invariant c.args.t.0 c.index-priority.result.now known c.index-priority.ensures held in
    rw c.unlink.ensures.unlinked (omega (arith, stands.0, c.self.invariant.lists, length-map c.self.inside.links.lists (without c.args.t.0)))

pub without_bit-self-inside-requires : goal.without_bit-self-inside-requires
without_bit-self-inside-requires c =
    let known = rw (← c.self.view_is) at c.requires.thread in
    let held = sym (any_thread c.args.t c.self.inside.links.lists) ∙ rw (← c.self.view_is) at c.requires.ready in
    let stands = stands_read c.self.inside.threads c.self.inside.links c.self.inside.priorities.items c.self.inside.mask
    c.self.invariant c.args.t.0 c.index-priority.result.now known c.index-priority.ensures held in
    stands.0

pub invariant_of-self : goal.invariant_of-self
invariant_of-self c =
    let known = rw (← c.self.view_is) at c.requires.thread in
    let held = sym (any_thread c.args.t c.self.inside.links.lists) ∙ rw (← c.self.view_is) at c.requires.ready in
    let stands = stands_read c.self.inside.threads c.self.inside.links c.self.inside.priorities.items c.self.inside.mask
    c.self.invariant c.args.t.0 c.index-priority.result.now known c.index-priority.ensures held in
    emptied_kept c.self.inside.threads c.self.inside.links c.self.inside.priorities.items c.self.inside.mask
    c.self.invariant c.args.t.0 c.index-priority.result.now stands.1.place c.without_bit-self-inside.result
    c.unlink.new.self stands.0 stands.1.at (c.unlink.ensures.alone c.index-priority.result.now stands.1.place
    stands.1.at) (c.first.ensures.none.0 c.if-is_none.ensures) c.without_bit-self-inside.ensures.own
    c.without_bit-self-inside.ensures.others

pub invariant_of-self-else-is_none : goal.invariant_of-self-else-is_none
invariant_of-self-else-is_none c =
    let known = rw (← c.self.view_is) at c.requires.thread in
    let held = sym (any_thread c.args.t c.self.inside.links.lists) ∙ rw (← c.self.view_is) at c.requires.ready in
    let stands = stands_read c.self.inside.threads c.self.inside.links c.self.inside.priorities.items c.self.inside.mask
    c.self.invariant c.args.t.0 c.index-priority.result.now known c.index-priority.ensures held in
    remaining_kept c.self.inside.threads c.self.inside.links c.self.inside.priorities.items c.self.inside.mask
    c.self.invariant c.args.t.0 c.index-priority.result.now stands.1.place c.unlink.new.self stands.0 stands.1.at
    (c.unlink.ensures.alone c.index-priority.result.now stands.1.place stands.1.at)
    (λ empty. both_tests (sym (c.first.ensures.none.1 empty) ∙ c.is_none.ensures ∙ ap not c.if-is_none.false))

pub returns-then-is_none : goal.returns-then-is_none
returns-then-is_none c =
    rw (← c.self.view_is, c.unlink.ensures.unlinked)
    (ap (λ (queues : List (List ObjNo)). record { threads = c.self.inside.threads; queues = queues })
    (all_without_thread c.args.t c.self.inside.links.lists))

pub returns-else-is_none : goal.returns-else-is_none
returns-else-is_none c =
    rw (← c.self.view_is, c.unlink.ensures.unlinked)
    (ap (λ (queues : List (List ObjNo)). record { threads = c.self.inside.threads; queues = queues })
    (all_without_thread c.args.t c.self.inside.links.lists))
