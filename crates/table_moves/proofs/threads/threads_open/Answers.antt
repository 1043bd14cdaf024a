use Rattle.std.proofs.Common.{ap, Some}
use Rattle.machine.specs.Moves.{with_part, with_use}
use Rattle.table_moves.specs.ThreadRows.{with_threads}
use Rattle.table_moves.proofs.DyingRows.{row_twice}
use Rattle.table_moves.proofs.threads.threads_open.Goals as goal

pub returns : goal.returns
returns c =
    let old = c.args.procs.now in
    rw (c.threads_go_on.ensures, c.set_use.ensures)
    (ap (with_threads old) (row_twice old.threads c.args.thread (with_use (Some c.args.object))
    (with_part c.args.part)))
