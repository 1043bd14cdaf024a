use Rattle.std.proofs.Common.{refl}
use Rattle.entry_log.specs.declared.effect.Holder.TheVariants.{Temp}
use Rattle.kernel_tables.specs.StateOf.{state_of}
use Rattle.kernel_tables.proofs.FirstCount.{counts-more}
use Rattle.kernel_tables.proofs.Noting.{may_use}
use Rattle.kernel_tables.proofs.Tying.{tied_opened}
use Rattle.kernel_tables.proofs.moves.open_found.Goals as goal

pub note_gain-requires : goal.note_gain-requires
note_gain-requires g c = may_use c.args.tables.now.cleanup (state_of c.args.tables.now) (Temp c.args.thread) c.requires.kept.tied.uses c.requires.can.1

pub returns : goal.returns
returns g c =
    let old = c.args.tables.now in
    let known = c.requires.can.0.known in
    λ t. record {
      state = rw (c.threads_open.ensures, c.add_ref.ensures.rows, c.add_ref.ensures.makings, c.note_gain.ensures) refl;
      counts =
          rw c.add_ref.ensures.counts (counts-more old.objects.counts c.args.object (Temp c.args.thread)
          (rw (c.requires.kept.counts c.args.object) known));
      mode = refl;
      notes = c.add_ref.ensures.notes;
      reuse = c.add_ref.ensures.mode;
      tied =
          rw (c.threads_open.ensures, c.note_gain.ensures)
          (tied_opened old.cleanup old.locks.priorities
          (state_of old) c.args.thread c.args.object c.args.part c.requires.can.1 c.requires.kept.tied);
    }
