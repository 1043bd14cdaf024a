use Rattle.std.proofs.Common.{◌∙◌}
use Rattle.entry_log.specs.declared.step.Part.TheVariants.{Return}
use Rattle.machine.specs.Moves.{with_part}
use Rattle.table_moves.specs.ThreadRows.{with_sought, with_threads}
use Rattle.std.proofs.Common.{ap}
use Rattle.table_moves.proofs.DyingRows.{row_twice}
use Rattle.table_moves.proofs.threads.threads_find.Goals as goal

pub returns : goal.returns
returns c =
    let old = c.args.procs.now in
    rw (c.threads_go_on.ensures, c.threads_seek.ensures)
    (ap (with_threads old) (row_twice old.threads c.args.thread (with_sought c.args.object c.args.place) (with_part Return)))
