use Rattle.std.proofs.Common.{◌≡◌, ◌∙◌, ◌<◌, get_or, length, refl, sym, true, None, arith}
use Rattle.procs.specs.Rows.{is_thread}
use Rattle.table_moves.proofs.RowsOfThreads.{has_row}
use Rattle.kernel_tables.proofs.Tying.{tied_ranked}
use Rattle.kernel_tables.proofs.moves.set_priority.Goals as goal

pub returns : goal.returns
returns g c =
    let old = c.args.tables.now in
    let t = c.args.thread in
    let is : is_thread old.procs t ≡ true = sym c.is_thread.ensures ∙ c.if-not-is_thread.false in
    let there = has_row (get_or old.procs.threads t.0 None) is in
    let inside : t.0 < length old.locks.priorities = let a = (c.requires.can t there.row there.is).0 in let b = c.requires.tied.ranked in omega arith in
    λ u. record {
      state = rw (c.threads_set_priority.ensures, c.set_priority.ensures) refl;
      counts = λ o. refl;
      mode = refl;
      notes = refl;
      reuse = refl;
      tied =
          rw (c.threads_set_priority.ensures, c.set_priority.ensures)
          (tied_ranked old.cleanup old.locks.priorities old.procs.threads t there.row c.args.priority there.is inside
          c.requires.tied);
    }
