use Rattle.std.proofs.Common.{◌∙◌, subst}
use Rattle.machine.specs.declared.state.State.{State}
use Rattle.machine.specs.FinalRows.{rows_from, IsNextRow}
use Rattle.kcore.proofs.ActionsDone.{same-state}
use Rattle.kcore.proofs.BothWays.{next-row-in}
use Rattle.kcore.proofs.kernel.Kernel.next_row.Goals as goal

pub returns : goal.returns
returns g c =
    let k = c.self.inside in
    let state = same-state _ _ c.core.view_is ∙ c.self.invariant.stands.state in
    let next = subst (λ (S : State). IsNextRow (rows_from S) c.args.from c.next_row.result) state c.next_row.ensures in
    rw (← c.self.view_is) (λ shared suits. next-row-in k.script k.core.state.mode.shared shared k.history.items c.args.from c.next_row.result suits next)
