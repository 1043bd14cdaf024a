use Rattle.std.proofs.Common.{◌≡◌, ℕ, ◌+◌, ◌∙◌, sym, ap, subst, arith, false}
use Rattle.std.specs.Prelude.{slice_index, slice_set}
use Rattle.std.proofs.lemmas.List.{get_or_read}
use Rattle.state_rows.specs.ObjectRows.{is_taken}
use Rattle.table_moves.specs.Notes.{Notes}
use Rattle.kcore.proofs.BootTables.{read_at, stand_long, stand_next, none_stand, one_more}
use Rattle.kcore.proofs.boot_objects.counted.Goals as goal

pub loop-number-init : goal.loop-number-init
loop-number-init g c = record {
  stand = none_stand c.args.all.now _ _ c.in_ok-objects.ensures.rows c.in_ok-objects.ensures.counts;
  made = c.in_ok-objects.ensures.made;
  reuse = c.in_ok-objects.ensures.mode;
  notes = c.in_ok-objects.ensures.notes;
}

pub make_counted-requires-clause-named : goal.make_counted-requires-clause-named
make_counted-requires-clause-named g c =
    c.requires.born.named c.loop-number.number c.index-all-number.result
    (read_at c.args.all.now c.loop-number.number c.index-all-number.result c.loop-number-test.true
    c.index-all-number.is)

pub make_counted-requires-clause-alive : goal.make_counted-requires-clause-alive
make_counted-requires-clause-alive g c =
    c.requires.born.alive c.loop-number.number c.index-all-number.result
    (read_at c.args.all.now c.loop-number.number c.index-all-number.result c.loop-number-test.true
    c.index-all-number.is)

pub make_counted-requires-clause-fresh : goal.make_counted-requires-clause-fresh
make_counted-requires-clause-fresh g c =
    let b = c.index-all-number.result in
    subst (λ rows. is_taken b.object.kind b.object.name rows ≡ false) (sym c.loop-number.invariant.stand.rows_are)
    (c.requires.born.names c.loop-number.number b
    (read_at c.args.all.now c.loop-number.number b c.loop-number-test.true c.index-all-number.is))

pub make_counted-requires-clause-some : goal.make_counted-requires-clause-some
make_counted-requires-clause-some g c =
    let n = c.loop-number.number in
    let some = c.requires.born.counted n c.loop-number-test.true in
    let long = c.in_ok-counts.ensures.long in
    let lt = c.loop-number-test.true in
    let read = get_or_read c.in_ok-counts.counts.items n _ (omega arith) c.index.ensures 0 in
    let is = c.in_ok-counts.ensures.counts (record { 0 = n }) in
    omega arith

pub make_counted-requires-clause-small : goal.make_counted-requires-clause-small
make_counted-requires-clause-small g c =
    let n = c.loop-number.number in
    let few = c.requires.small (record { 0 = n }) in
    let long = c.in_ok-counts.ensures.long in
    let lt = c.loop-number-test.true in
    let read = get_or_read c.in_ok-counts.counts.items n _ (omega arith) c.index.ensures 0 in
    let is = c.in_ok-counts.ensures.counts (record { 0 = n }) in
    omega arith

pub make_counted-requires-clause-next : goal.make_counted-requires-clause-next
make_counted-requires-clause-next g c =
    let l = c.loop-number in
    stand_next c.args.all.now l.objects.rows l.objects.counts l.number l.objects.reuse l.invariant.stand

pub make_counted-requires-clause-made : goal.make_counted-requires-clause-made
make_counted-requires-clause-made g c =
    let l = c.loop-number in
    l.invariant.made ∙ sym (stand_long c.args.all.now l.objects.rows l.objects.counts l.number l.invariant.stand l.auto.number-end)

pub make_counted-requires-clause-place : goal.make_counted-requires-clause-place
make_counted-requires-clause-place g c =
    let l = c.loop-number in
    let made = l.invariant.made in
    let places = ap (λ (n : Notes). n.places) l.invariant.notes in
    let most = c.requires.places in
    let lt = c.loop-number-test.true in omega arith

pub make_counted-requires-clause-room : goal.make_counted-requires-clause-room
make_counted-requires-clause-room g c =
    let long = stand_long c.args.all.now c.loop-number.objects.rows c.loop-number.objects.counts
    c.loop-number.number c.loop-number.invariant.stand c.loop-number.auto.number-end in
    let lt = c.loop-number-test.true in
    let few = c.requires.few in omega arith

pub loop-number-preserved : goal.loop-number-preserved
loop-number-preserved g c =
    let l = c.loop-number in
    let n = l.number in
    let b = c.index-all-number.result in
    let count = c.index.result.now in
    let size = c.in_ok-counts.ensures.long in
    let lt = c.loop-number-test.true in
    let read = get_or_read c.in_ok-counts.counts.items n count (omega arith) c.index.ensures 0 in
    let long = stand_long c.args.all.now l.objects.rows l.objects.counts n l.invariant.stand l.auto.number-end in
    let new = c.make_counted.new.objects in
    record {
      stand = rw c.make_counted.ensures.rows
          (one_more c.args.all.now l.objects.rows l.objects.counts new.counts n count b l.invariant.stand long
          (read_at c.args.all.now n b c.loop-number-test.true c.index-all-number.is)
          (read ∙ c.in_ok-counts.ensures.counts (record { 0 = n }))
          (c.make_counted.ensures.counts ∙ ap (λ (k : ℕ). slice_set l.objects.counts k count) long)
          (ap (slice_index new.counts) (sym long) ∙ c.make_counted.ensures.last));
      made = c.make_counted.ensures.made ∙ ap (λ (k : ℕ). k + 1) l.invariant.made;
      reuse = c.make_counted.ensures.reuse ∙ l.invariant.reuse;
      notes = c.make_counted.ensures.notes ∙ l.invariant.notes;
    }
