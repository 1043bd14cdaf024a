use Rattle.std.proofs.Common.{◌≡◌, ◌∙◌, true, false, sym}
use Rattle.kern_sync.specs.Kept.{locks_of}
use Rattle.kern_sync.proofs.Threads.{any_thread}
use Rattle.kern_sync.proofs.Waiting.{waiter_removed, waiter_absent, waits_not}
use Rattle.kern_sync.proofs.sync.KernSync.remove_waiter.Goals as goal

pub returns-then-is_linked-clause-after : goal.returns-then-is_linked-clause-after
returns-then-is_linked-clause-after c =
    rw (← c.self.view_is, c.unlink.ensures.unlinked)
    (waiter_removed c.self.inside.owners.items c.self.inside.counts.items c.self.inside.priorities.items
    c.self.inside.links c.args.t)

pub returns-then-is_linked-clause-unchanged : goal.returns-then-is_linked-clause-unchanged
returns-then-is_linked-clause-unchanged c =
    let held = c.is_linked.ensures.linked.0 c.if-is_linked.true in
    rw (← c.self.view_is) (λ absent. let no : true ≡ false = sym held ∙ sym (any_thread c.args.t c.self.inside.links.lists) ∙ absent in absurd (cc))

pub returns-then-is_linked-clause-ended : goal.returns-then-is_linked-clause-ended
returns-then-is_linked-clause-ended c =
    waits_not c.self.inside.owners.items c.self.inside.counts.items c.self.inside.priorities.items c.unlink.new.self c.args.t c.unlink.ensures.free

pub returns-else-is_linked-clause-after : goal.returns-else-is_linked-clause-after
returns-else-is_linked-clause-after c =
    let absent = waits_not c.self.inside.owners.items c.self.inside.counts.items c.self.inside.priorities.items
    c.self.inside.links c.args.t (λ held. let no : false ≡ true = sym c.if-is_linked.false
    ∙ c.is_linked.ensures.linked.1 held in absurd (cc)) in
    rw (← c.self.view_is) (waiter_absent (locks_of c.self.inside.owners.items c.self.inside.counts.items
    c.self.inside.priorities.items c.self.inside.links) c.args.t absent)

pub returns-else-is_linked-clause-ended : goal.returns-else-is_linked-clause-ended
returns-else-is_linked-clause-ended c =
    rw (← c.self.view_is) (waits_not c.self.inside.owners.items c.self.inside.counts.items
    c.self.inside.priorities.items c.self.inside.links c.args.t
    (λ held. let no : false ≡ true = sym c.if-is_linked.false ∙ c.is_linked.ensures.linked.1 held in absurd (cc)))
