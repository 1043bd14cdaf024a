use Rattle.std.proofs.Common.{refl}
use Rattle.machine.specs.Moves.{with_found}
use Rattle.kernel_tables.proofs.Tying.{tied_row}
use Rattle.kernel_tables.proofs.moves.find.Goals as goal

pub returns : goal.returns
returns g c =
    let old = c.args.tables.now in
    λ t. record {
      state = rw (c.threads_find.ensures, c.place-place.ensures) refl;
      counts = λ o. refl;
      mode = refl;
      notes = refl;
      reuse = refl;
      tied =
          rw c.threads_find.ensures (tied_row old.cleanup old.locks.priorities old.procs.threads c.args.thread
          (with_found c.args.object c.place-place.result) (λ r. refl) (λ r. refl) c.requires);
    }
