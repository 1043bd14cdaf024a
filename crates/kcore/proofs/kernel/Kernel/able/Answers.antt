use Rattle.std.proofs.Common.{◌∙◌, ap}
use Rattle.machine.specs.declared.state.State.{State}
use Rattle.machine.specs.Task.{is_able}
use Rattle.kcore.proofs.ActionsDone.{same-state}
use Rattle.kcore.proofs.BothWays.{able-in}
use Rattle.kcore.proofs.kernel.Kernel.able.Goals as goal

pub returns : goal.returns
returns g c =
    let k = c.self.inside in
    let state = same-state _ _ c.core.view_is ∙ c.self.invariant.stands.state in
    rw (← c.self.view_is) (λ shared suits. able-in k.script k.core.state.mode.shared shared k.history.items c.args.t _
    c.self.invariant.stands.valid suits (c.is_able.ensures ∙ ap (λ (S : State). is_able k.script S c.args.t) state))
