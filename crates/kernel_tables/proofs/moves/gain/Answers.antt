use Rattle.std.proofs.Common.{refl}
use Rattle.kernel_tables.specs.StateOf.{state_of}
use Rattle.kernel_tables.proofs.FirstCount.{counts-more}
use Rattle.kernel_tables.proofs.Noting.{may_use, duties_gained, mutexes_gained, logons_gained, servers_gained}
use Rattle.kernel_tables.proofs.Tying.{tied_gained}
use Rattle.kernel_tables.proofs.moves.gain.Goals as goal

pub note_gain-requires : goal.note_gain-requires
note_gain-requires g c = may_use c.args.tables.now.cleanup (state_of c.args.tables.now) c.args.holder c.requires.kept.tied.uses c.requires.can.1

pub returns : goal.returns
returns g c =
    let old = c.args.tables.now in
    let known = c.requires.can.0.known in
    λ t. record {
      state =
          rw (
            c.gain_slot.ensures,
            c.threads_gain.ensures,
            c.add_ref.ensures.rows,
            c.add_ref.ensures.makings,
            c.note_gain.ensures,
            duties_gained old.cleanup c.args.holder c.args.object,
            mutexes_gained old.cleanup c.args.holder c.args.object,
            logons_gained old.cleanup c.args.holder c.args.object,
            servers_gained old.cleanup c.args.holder c.args.object,
          ) refl;
      counts = rw c.add_ref.ensures.counts (counts-more old.objects.counts c.args.object c.args.holder (rw (c.requires.kept.counts c.args.object) known));
      mode = refl;
      notes = c.add_ref.ensures.notes;
      reuse = c.add_ref.ensures.mode;
      tied =
          rw (c.threads_gain.ensures, c.note_gain.ensures)
          (tied_gained old.cleanup old.locks.priorities
          (state_of old) c.args.holder c.args.object c.requires.can.1 c.requires.kept.tied);
    }
