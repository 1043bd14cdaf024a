use Rattle.std.proofs.Common.{rules}
use Rattle.kernel_tables.proofs.Tying.{tied_closed}
use Rattle.kernel_tables.proofs.closings.close.Goals as goal

pub returns : goal.returns
returns g c =
    let old = c.args.tables.now in
    record {
      state = search rules;
      mode = c.choose.ensures.mode c.args.object;
      counts = c.close_ref.ensures.counts;
      tied =
          rw (c.owe_close.ensures, c.threads_closed.ensures)
          (tied_closed old.cleanup old.locks.priorities old.procs.threads _ c.args.object c.requires.tied);
      notes = c.close_ref.ensures.notes;
      reuse = c.close_ref.ensures.mode;
      only = search rules;
      out = search rules;
    }
