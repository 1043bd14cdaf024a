use Rattle.std.proofs.Common.{◌∙◌, sym, ap}
use Rattle.std.specs.Prelude.{option_map}
use Rattle.kern_sync.specs.Kept.{thread, locks_of}
use Rattle.kern_sync.proofs.Waiting.{best_is, none_best}
use Rattle.kern_sync.proofs.sync.KernSync.best_waiter.Goals as goal

pub returns-clause-best : goal.returns-clause-best
returns-clause-best c =
    let first = rw c.deref.ensures.value at c.in_ok-node.ensures.first in
    rw (← c.self.view_is) (ap (option_map thread) first
    ∙ sym (best_is c.self.inside.owners.items c.self.inside.counts.items c.self.inside.priorities.items
    c.self.inside.links c.self.invariant c.args.o))

pub returns-clause-none : goal.returns-clause-none
returns-clause-none c =
    let first = rw c.deref.ensures.value at c.in_ok-node.ensures.first in
    rw (← c.self.view_is) (none_best (locks_of c.self.inside.owners.items c.self.inside.counts.items
    c.self.inside.priorities.items c.self.inside.links) c.args.o _
    (ap (option_map thread) first ∙ sym (best_is c.self.inside.owners.items c.self.inside.counts.items
    c.self.inside.priorities.items c.self.inside.links c.self.invariant c.args.o)))

pub returns-in_err-node-clause-best : goal.returns-in_err-node-clause-best
returns-in_err-node-clause-best c =
    let first = rw c.deref.ensures.value at c.in_err-node.ensures.first in
    rw (← c.self.view_is) (c.from_residual.ensures ∙ ap (option_map thread) first
    ∙ sym (best_is c.self.inside.owners.items c.self.inside.counts.items c.self.inside.priorities.items
    c.self.inside.links c.self.invariant c.args.o))

pub returns-in_err-node-clause-none : goal.returns-in_err-node-clause-none
returns-in_err-node-clause-none c =
    let first = rw c.deref.ensures.value at c.in_err-node.ensures.first in
    rw (← c.self.view_is) (none_best (locks_of c.self.inside.owners.items c.self.inside.counts.items
    c.self.inside.priorities.items c.self.inside.links) c.args.o _
    (c.from_residual.ensures ∙ ap (option_map thread) first
    ∙ sym (best_is c.self.inside.owners.items c.self.inside.counts.items c.self.inside.priorities.items
    c.self.inside.links c.self.invariant c.args.o)))
