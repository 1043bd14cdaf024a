use Rattle.std.proofs.Common.{refl}
use Rattle.entry_log.specs.declared.effect.Holder.TheVariants.{Temp}
use Rattle.kernel_tables.proofs.Tying.{tied_lost}
use Rattle.kernel_tables.proofs.moves.put_down.Goals as goal

pub returns : goal.returns
returns g c =
    let old = c.args.tables.now in
    λ t. record {
      state = rw (c.threads_lose.ensures, c.owe_use.ensures, c.note_end.ensures, c.use_of-uses.ensures) refl;
      counts = λ o. refl;
      mode = refl;
      notes = refl;
      reuse = refl;
      tied =
          rw (c.threads_lose.ensures, c.owe_use.ensures, c.note_end.ensures)
          (tied_lost old.cleanup old.locks.priorities old.procs.threads (Temp c.args.thread) c.requires.tied);
    }
