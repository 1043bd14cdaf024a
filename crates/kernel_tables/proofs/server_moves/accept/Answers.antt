use Rattle.std.proofs.Common.{◌∙◌, arith, refl, w32, rules, FitsSigned}
use Rattle.std.proofs.Math.Facts.{to_z-of_z}
use Rattle.entry_log.specs.declared.effect.Holder.TheVariants.{Message}
use Rattle.state_rows.specs.MessageChanges.{next_number}
use Rattle.kernel_tables.proofs.FirstCount.{counts-two}
use Rattle.kernel_tables.proofs.GoingServers.{accepted_rows, one_more}
use Rattle.kernel_tables.proofs.LockRows.{held_by_count}
use Rattle.kernel_tables.proofs.server_moves.accept.Goals as goal

pub add_ref-requires : goal.add_ref-requires
add_ref-requires g c =
    let held = held_by_count c.args.tables.now c.args.row.session c.requires.kept c.requires.can.session in
    record { there = held.there; known = held.known; few = held.few }

pub add_ref-requires-2 : goal.add_ref-requires-2
add_ref-requires-2 g c =
    let old = c.args.tables.now in
    let held = held_by_count old c.args.row.client c.requires.kept c.requires.can.client in
    let more = one_more old.objects.counts c.args.row.session c.args.row.client in
    let few = c.requires.can.client.few in
    let agree = c.requires.kept.counts c.args.row.client in
    rw (c.add_ref.ensures.rows, c.add_ref.ensures.counts)
    (record { there = held.there; known = omega (arith, more.0, held.known); few = omega (arith, more.1, few, agree) })

pub accept-requires : goal.accept-requires
accept-requires g c = record { server = c.requires.can.server; room = c.requires.can.room; number = c.requires.can.number }

pub returns : goal.returns
returns g c =
    let old = c.args.tables.now in
    let session = held_by_count old c.args.row.session c.requires.kept c.requires.can.session in
    let client = held_by_count old c.args.row.client c.requires.kept c.requires.can.client in
    let rows = accepted_rows old.messages c.args.slots c.args.row c.requires.can.untaken c.requires.can.slot in
    let fits : FitsSigned w32 c.args.row.function = search rules in
    let function = to_z-of_z fits in
    λ t. record {
      state =
          rw (
            c.accept.ensures.accepted,
            c.add_ref-2.ensures.rows,
            c.add_ref-2.ensures.makings,
            c.add_ref.ensures.rows,
            c.add_ref.ensures.makings,
            function,
            ← rows,
          ) refl;
      counts =
          rw (c.add_ref-2.ensures.counts, c.add_ref.ensures.counts)
          (counts-two old.objects.counts c.args.row.session c.args.row.client (next_number old.messages)
          (Message (next_number old.messages)) session.known client.known);
      mode = refl;
      notes = c.add_ref-2.ensures.notes ∙ c.add_ref.ensures.notes;
      reuse = c.add_ref-2.ensures.mode ∙ c.add_ref.ensures.mode;
      tied = c.requires.kept.tied;
    }
