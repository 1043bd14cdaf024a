use Rattle.std.proofs.Common.{refl}
use Rattle.machine.specs.DeathMoves.{death_row, death_thread}
use Rattle.kernel_tables.proofs.DyingRows.{death_counts, death_priority, death_uses}
use Rattle.kernel_tables.proofs.Tying.{tied_row}
use Rattle.kernel_tables.proofs.death_moves.move_death.Goals as goal

pub returns : goal.returns
returns g c =
    let old = c.args.tables.now in
    let change = c.args.change.now in
    record {
      state = rw (c.move_row.ensures, c.owe_burial.ensures) refl;
      counts = death_counts old.objects.counts change;
      mode = refl;
      notes = refl;
      reuse = refl;
      tied =
          rw (c.move_row.ensures, c.owe_burial.ensures)
          (tied_row old.cleanup old.locks.priorities old.procs.threads (death_thread change) (death_row change)
          (death_uses change) (death_priority change) c.requires.tied);
    }
