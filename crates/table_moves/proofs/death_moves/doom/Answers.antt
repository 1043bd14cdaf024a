use Rattle.std.proofs.Common.{◌∙◌, List, ap}
use Rattle.std.specs.Prelude.{Option}
use Rattle.state_rows.specs.declared.thread.Stage.TheVariants.{Doomed}
use Rattle.state_rows.specs.declared.thread.ThreadRow.{ThreadRow}
use Rattle.machine.specs.Rows.{with_row}
use Rattle.table_moves.specs.Dying.{waited, with_exit, with_stage}
use Rattle.table_moves.specs.ThreadRows.{with_threads}
use Rattle.table_moves.proofs.DyingRows.{row_twice}
use Rattle.table_moves.proofs.death_moves.doom.Goals as goal

pub returns : goal.returns
returns c =
    let old = c.args.procs.now in
    let t = c.args.thread in
    let exit = c.args.exit in
    let ended = with_row old.threads t waited in
    rw (c.set_stage.ensures, c.set_exit.ensures, c.end_wait.ensures)
    (ap (with_threads old) (ap (λ (threads : List (Option ThreadRow)). with_row threads t (with_stage Doomed))
    (row_twice old.threads t waited (with_exit exit))
    ∙ row_twice old.threads t (λ row. with_exit exit (waited row)) (with_stage Doomed)))
