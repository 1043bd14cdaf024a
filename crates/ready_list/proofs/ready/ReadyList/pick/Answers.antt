use Rattle.std.proofs.Common.{◌∙◌, sym}
use Rattle.ready_list.proofs.Highest.{highest_empty}
use Rattle.ready_list.proofs.Picked.{none_ready, none_picked, picked}
use Rattle.ready_list.proofs.ready.ReadyList.pick.Goals as goal

pub returns-in_err-priority-clause-picked : goal.returns-in_err-priority-clause-picked
returns-in_err-priority-clause-picked c =
    rw (← c.self.view_is) (c.from_residual.ensures
    ∙ sym (highest_empty _ (none_ready c.self.inside.threads c.self.inside.links c.self.inside.priorities.items
    c.self.inside.mask c.self.invariant c.in_err-priority.ensures.none)))

pub returns-in_err-priority-clause-none : goal.returns-in_err-priority-clause-none
returns-in_err-priority-clause-none c =
    rw (← c.self.view_is) (none_picked _ _ (c.from_residual.ensures
    ∙ sym (highest_empty _ (none_ready c.self.inside.threads c.self.inside.links c.self.inside.priorities.items
    c.self.inside.mask c.self.invariant c.in_err-priority.ensures.none))))

pub returns-clause-picked : goal.returns-clause-picked
returns-clause-picked c =
    let low = c.in_ok-priority.ensures.low in
    rw (← c.self.view_is) (picked c.self.inside.threads c.self.inside.links c.self.inside.priorities.items
    c.self.inside.mask c.self.invariant c.in_ok-priority.priority c.in_ok-first.first low c.in_ok-priority.ensures.above
    c.in_ok-first.ensures.first)

pub returns-clause-none : goal.returns-clause-none
returns-clause-none c =
    let low = c.in_ok-priority.ensures.low in
    rw (← c.self.view_is) (none_picked _ _ (picked c.self.inside.threads c.self.inside.links
    c.self.inside.priorities.items c.self.inside.mask c.self.invariant c.in_ok-priority.priority c.in_ok-first.first low
    c.in_ok-priority.ensures.above c.in_ok-first.ensures.first))
