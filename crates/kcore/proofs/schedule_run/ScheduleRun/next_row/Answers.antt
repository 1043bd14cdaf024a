use Rattle.std.proofs.Common.{◌∙◌, ◌+◌, length, subst}
use Rattle.machine.specs.declared.state.State.{State}
use Rattle.machine.specs.FinalRows.{rows_from, IsNextRow}
use Rattle.kcore.proofs.ActionsDone.{same-state}
use Rattle.kcore.proofs.ScheduleGoes.{run-stands}
use Rattle.kcore.proofs.schedule_run.ScheduleRun.next_row.Goals as goal

pub returns : goal.returns
returns c =
    let r = c.self.inside in
    let state = same-state _ _ c.core.view_is ∙ (run-stands r.script (r.before + length r.part.items) r.core c.self.invariant).state in
    rw (← c.self.view_is) (subst (λ (S : State). IsNextRow (rows_from S) c.args.from c.next_row.result) state c.next_row.ensures)
