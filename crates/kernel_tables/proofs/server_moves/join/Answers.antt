use Rattle.std.proofs.Common.{refl}
use Rattle.entry_log.specs.declared.effect.Holder.TheVariants.{Link}
use Rattle.kernel_tables.proofs.FirstCount.{counts-more}
use Rattle.kernel_tables.proofs.LockRows.{held_by_count}
use Rattle.kernel_tables.proofs.server_moves.join.Goals as goal

pub add_ref-requires : goal.add_ref-requires
add_ref-requires g c =
    let held = held_by_count c.args.tables.now c.args.server c.requires.kept c.requires.can.4 in
    record { there = held.there; known = held.known; few = held.few }

pub returns : goal.returns
returns g c =
    let old = c.args.tables.now in
    let held = held_by_count old c.args.server c.requires.kept c.requires.can.4 in
    λ t. record {
      state = rw (c.add_session.ensures, c.add_ref.ensures.rows, c.add_ref.ensures.makings) refl;
      counts = rw c.add_ref.ensures.counts (counts-more old.objects.counts c.args.server (Link c.args.session) held.known);
      mode = refl;
      notes = c.add_ref.ensures.notes;
      reuse = c.add_ref.ensures.mode;
      tied = c.requires.kept.tied;
    }
