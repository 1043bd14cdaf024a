use Rattle.std.proofs.Common.{◌≡◌, ◌∙◌, List, get_or, sym, ap, subst, length, arith, map, replicate, ℕ, None, false}
use Rattle.std.specs.Prelude.{slice_index}
use Rattle.script_types.proofs.ShapeLaws.{formed_is_shaped}
use Rattle.state_rows.specs.declared.messages.MessageRows.{MessageRows}
use Rattle.machine.specs.declared.boot.Born.{Born}
use Rattle.machine.specs.declared.mode.Mode.{Mode}
use Rattle.machine.specs.declared.state.State.{State}
use Rattle.machine.specs.Boot.{boot, born}
use Rattle.machine.specs.Choice.{priority_of_row}
use Rattle.machine.specs.References.{count_of}
use Rattle.machine.specs.Moves.{use_of_row}
use Rattle.machine.proofs.BornFew.{born_few}
use Rattle.machine_laws.proofs.AtBoot.Born.{each_born}
use Rattle.machine_laws.proofs.AtBoot.BootRows.{rows-boot}
use Rattle.move_laws.proofs.Numbers.CountSmall.{count_small}
use Rattle.kcore.specs.BootTable.{AreLinked, AreNew, AreTables, FirstStand, born_rows}
use Rattle.table_moves.specs.Notes.{Notes}
use Rattle.kernel_tables.specs.Counts.{Agrees}
use Rattle.kcore.proofs.BootCounts.{boot_count, linked_at_boot}
use Rattle.kcore.proofs.BootGroups.{state_is_boot}
use Rattle.kcore.proofs.BootTables.{new_at_boot, agrees_at_boot, all_stand}
use Rattle.kcore.proofs.BootUses.{none_used}
use Rattle.kcore.proofs.boot.tables_at_boot.Goals as goal

pub counted-requires-clause-few : goal.counted-requires-clause-few
counted-requires-clause-few g c =
    let few = born_few c.args.script.now (formed_is_shaped c.args.script.now c.requires.valid) in
    let e = ap length c.requires.born in
    omega arith

pub counted-requires-clause-places : goal.counted-requires-clause-places
counted-requires-clause-places g c =
    let few = born_few c.args.script.now (formed_is_shaped c.args.script.now c.requires.valid) in
    let e = ap length c.requires.born in
    let places = c.requires.places in
    omega arith

pub counted-requires-clause-small : goal.counted-requires-clause-small
counted-requires-clause-small g c =
    let script = c.args.script.now in
    rw c.requires.born (λ o. let small = count_small script (boot script) (rows-boot false script c.requires.valid) o in
    let is = boot_count script o in omega arith)

pub counted-requires-clause-linked : goal.counted-requires-clause-linked
counted-requires-clause-linked g c = subst (λ (bs : List Born). AreLinked bs) (sym c.requires.born) (linked_at_boot c.args.script.now c.requires.valid)

pub counted-requires-clause-born : goal.counted-requires-clause-born
counted-requires-clause-born g c = subst (λ (bs : List Born). AreNew bs) (sym c.requires.born) (new_at_boot c.args.script.now c.requires.valid)

pub tables_of-requires-clause-shaped : goal.tables_of-requires-clause-shaped
tables_of-requires-clause-shaped g c = formed_is_shaped c.args.script.now c.requires.valid

pub tables_of-requires-clause-few : goal.tables_of-requires-clause-few
tables_of-requires-clause-few g c =
    let few = born_few c.args.script.now (formed_is_shaped c.args.script.now c.requires.valid) in
    let e = ap length c.requires.born in
    omega arith

pub returns-clause-state : goal.returns-clause-state
returns-clause-state g c =
    let script = c.args.script.now in
    let tables = c.in_ok-tables.tables in
    let objects = c.in_ok-objects.objects in
    let made : AreTables script (born script) objects tables = subst
    (λ (bs : List Born). AreTables script bs objects tables) c.requires.born c.in_ok-tables.ensures in
    let stand = subst (λ (bs : List Born). FirstStand bs objects.rows objects.counts (length bs)) c.requires.born c.in_ok-objects.ensures.stand in
    state_is_boot script objects tables made (all_stand (born script) objects.rows objects.counts stand)
    (c.in_ok-objects.ensures.made ∙ ap length c.requires.born)

pub returns-clause-made : goal.returns-clause-made
returns-clause-made g c =
    ap (λ t. t.made) c.in_ok-tables.ensures.objects ∙ (c.in_ok-objects.ensures.made ∙ ap length c.requires.born)

pub returns-clause-kept : goal.returns-clause-kept
returns-clause-kept g c =
    let script = c.args.script.now in
    let tables = c.in_ok-tables.tables in
    let made = c.in_ok-tables.ensures in
    let objects = c.in_ok-objects.objects in
    let agree : Agrees objects.counts (boot script) = agrees_at_boot script c.requires.valid c.args.all.now objects.rows
    objects.counts c.requires.born c.in_ok-objects.ensures.stand in
    let threads : tables.procs.threads ≡ born_rows (born script) = ap (λ p. p.threads) made.threads.procs ∙ ap born_rows c.requires.born in
    let uses : tables.cleanup.temporary ≡ replicate (length (born script)) None =
    ap (λ l. l.temporary) made.empty.cleanup ∙ ap (λ (bs : List Born). replicate (length bs) None) c.requires.born in
    let state = returns-clause-state g c in
    record {
      counts =
          λ o. ap (λ (counts : List ℕ). slice_index counts o.0) (ap (λ t. t.counts) made.objects)
          ∙ (agree o ∙ sym (ap (λ (S : State). count_of S o) state));
      tied = record {
        uses =
            uses
            ∙ (none_used script (length (born script)) (born script)
            (each_born script (formed_is_shaped script c.requires.valid)) ∙ sym (ap (map use_of_row) threads));
        ranks = λ u. made.threads.ranks u ∙ sym (ap (λ p. priority_of_row (get_or p.threads u.0 None)) made.threads.procs);
        listed = ap (λ l. l.objects) made.empty.cleanup;
        ranked = made.threads.ranked;
      };
      reuses =
          ap (λ t. t.reuse) made.objects
          ∙ (c.in_ok-objects.ensures.reuse ∙ (c.uses_again.ensures ∙ sym (ap (λ (m : Mode). m.reuse) made.empty.mode)));
      placed =
          let notes = ap (λ (n : Notes). n.places) (ap (λ t. t.notes) made.objects ∙ c.in_ok-objects.ensures.notes) in
          let again = ap (λ t. t.reuse) made.objects ∙ (c.in_ok-objects.ensures.reuse ∙ c.uses_again.ensures) in
          λ first. let most = c.requires.numbers (sym again ∙ first) in omega arith;
      numbered = let accepted = ap (λ (r : MessageRows). r.accepted) made.empty.messages in omega arith;
    }

pub returns-clause-notes : goal.returns-clause-notes
returns-clause-notes g c = ap (λ t. t.notes) c.in_ok-tables.ensures.objects ∙ c.in_ok-objects.ensures.notes
