use Rattle.std.proofs.Common.{ℕ, ap, subst, ◌∙◌}
use Rattle.sym_base.specs.declared.number.ObjNo.{ObjNo}
use Rattle.machine.specs.declared.decision.Decision.{Decision}
use Rattle.machine.specs.declared.decision.Outcome.{Outcome}
use Rattle.kernel_tables.specs.ReadyQueues.{Follow, leave_along}
use Rattle.kcore.proofs.ActionsDone.{carried_does, same-decision}
use Rattle.kcore.proofs.plans.finish.Goals as goal

-- the moves were made that were decided, and so is told
pub returns-clause-does : goal.returns-clause-does
returns-clause-does g c = λ d old made.
    let script = c.args.script.now in
    let t = c.args.thread in
    let mid = c.args.core.now in
    let new = c.leave.new.self in
    let effects = c.args.entry.now.effects in
    let follow = λ (rank : ObjNo → ℕ). subst
    (λ (x : Decision). Follow rank (leave_along script mid.state t x.moves) mid.ready new.ready) made.decided
    (c.leave.ensures.queues rank) in
    let named = λ (x : Decision). let o : Outcome = record { step = x.step; effects = effects; answer = x.answer } in o in
    carried_does script t d old mid new _ effects made.runs made.performed c.leave.ensures.state follow
    (ap named (same-decision _ _ c.core.view_is ∙ c.leave.ensures.decision ∙ made.decided))
