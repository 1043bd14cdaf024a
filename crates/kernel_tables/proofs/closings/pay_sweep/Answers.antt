use Rattle.std.proofs.Common.{refl}
use Rattle.kernel_tables.proofs.Tying.{tied_swept}
use Rattle.kernel_tables.proofs.closings.pay_sweep.Goals as goal

pub sweep-requires : goal.sweep-requires
sweep-requires g c = c.requires.can.dead

pub sweep_services-requires-clause-locks : goal.sweep_services-requires-clause-locks
sweep_services-requires-clause-locks g c = rw c.sweep_row.ensures.priorities c.requires.can.locks

pub sweep_services-requires-clause-servers : goal.sweep_services-requires-clause-servers
sweep_services-requires-clause-servers g c = c.requires.can.servers

pub sweep_services-requires-clause-alone : goal.sweep_services-requires-clause-alone
sweep_services-requires-clause-alone g c = c.requires.can.alone

pub returns : goal.returns
returns g c =
    let old = c.args.tables.now in
    record {
      state =
          rw (
            c.drop_first_owed.ensures,
            c.sweep_services.ensures.locks,
            c.sweep_services.ensures.servers,
            c.sweep_row.ensures.rows,
            c.sweep_row.ensures.priorities,
            c.sweep.ensures.rows,
            c.sweep.ensures.makings,
          ) refl;
      counts = rw c.sweep.ensures.counts (λ o. refl);
      mode = refl;
      notes = c.sweep.ensures.notes;
      reuse = c.sweep.ensures.mode;
      tied =
          rw (c.drop_first_owed.ensures, c.sweep_services.ensures.locks, c.sweep_row.ensures.rows, c.sweep_row.ensures.priorities)
          (tied_swept old.cleanup old.locks.priorities old.procs.threads c.args.object c.requires.can.unused c.requires.tied);
    }
