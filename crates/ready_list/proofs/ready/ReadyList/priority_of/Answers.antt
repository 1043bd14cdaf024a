use Rattle.std.proofs.Common.{◌∙◌, sym, refl, arith}
use Rattle.std.proofs.lemmas.List.{get_or_read}
use Rattle.ready_list.proofs.Keeping.{stands_read}
use Rattle.ready_list.proofs.Picked.{priority_ready, priority_unready}
use Rattle.ready_list.proofs.Threads.{any_thread}
use Rattle.ready_list.proofs.ready.ReadyList.priority_of.Goals as goal

pub returns-then-is_linked-clause-found : goal.returns-then-is_linked-clause-found
returns-then-is_linked-clause-found c =
    let held = c.is_linked.ensures.linked.0 c.if-is_linked.true in
    let known = rw (← c.self.view_is) at c.requires in
    let read = get_or_read c.self.inside.priorities.items c.args.t.0 c.index.result.now
    (omega (arith, c.self.invariant.owned.sized, c.self.invariant.nodes)) c.index.ensures 0 in
    rw (← c.self.view_is, read) (priority_ready c.self.inside.threads c.self.inside.links c.self.inside.priorities.items
    c.self.inside.mask c.self.invariant c.args.t held)

pub returns-then-is_linked-clause-none : goal.returns-then-is_linked-clause-none
returns-then-is_linked-clause-none c =
    let held = c.is_linked.ensures.linked.0 c.if-is_linked.true in
    rw (← c.self.view_is) (λ none. absurd (cc), λ unready. absurd (unready (any_thread c.args.t c.self.inside.links.lists ∙ held)))

pub returns-else-is_linked-clause-found : goal.returns-else-is_linked-clause-found
returns-else-is_linked-clause-found c =
    rw (← c.self.view_is) (priority_unready c.self.inside.threads c.self.inside.links c.self.inside.priorities.items
    c.self.inside.mask c.self.invariant c.args.t
    (λ held. let no = sym (c.is_linked.ensures.linked.1 held) ∙ c.if-is_linked.false in absurd (cc)))

pub returns-else-is_linked-clause-none : goal.returns-else-is_linked-clause-none
returns-else-is_linked-clause-none c =
    rw (← c.self.view_is) (
      λ _ ready. let held = sym (any_thread c.args.t c.self.inside.links.lists) ∙ ready in
          let no = sym (c.is_linked.ensures.linked.1 held) ∙ c.if-is_linked.false in absurd (cc),
      λ _. refl,
    )

pub returns-then-is_linked-clause-ranged : goal.returns-then-is_linked-clause-ranged
returns-then-is_linked-clause-ranged c =
    let held = c.is_linked.ensures.linked.0 c.if-is_linked.true in
    let known = rw (← c.self.view_is) at c.requires in
    let read = get_or_read c.self.inside.priorities.items c.args.t.0 c.index.result.now
    (omega (arith, c.self.invariant.owned.sized, c.self.invariant.nodes)) c.index.ensures c.index.result.now in
    (stands_read c.self.inside.threads c.self.inside.links c.self.inside.priorities.items c.self.inside.mask
    c.self.invariant c.args.t.0 c.index.result.now known read held).0
