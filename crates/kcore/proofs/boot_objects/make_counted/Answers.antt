use Rattle.std.proofs.Common.{◌≡◌, ℕ, ◌∙◌, ◌<◌, ◌++◌, ◌∷◌, [], List, length, sym, ap, arith, refl, Bool, true, false, Option, Some, None}
use Rattle.std.proofs.lemmas.List.{set-set, get_or_push}
use Rattle.std.specs.Prelude.{slice_index, slice_set}
use Rattle.state_rows.specs.declared.object.ObjectRow.{ObjectRow}
use Rattle.kcore.proofs.BootTables.{more_counts, more_last, made_last, made_row}
use Rattle.sym_base.specs.declared.kind.Kind.{Kind}
use Rattle.objects.specs.Calls.{next_place}
use Rattle.objects.specs.Rows.{kept_name}
use Rattle.state_rows.specs.ObjectRows.{is_session}
use Rattle.kcore.proofs.boot_objects.make_counted.Goals as goal

-- what isn't a session keeps its name
name_kept : (kind : Kind) (name : List ℕ) → is_session kind ≡ false → kept_name kind name ≡ name
name_kept kind name not = rw not refl

-- the next place is left either way
next-place : (reuse : Bool) (rows : List (Option ObjectRow)) (made places : ℕ) → made ≡ length rows → made < places → next_place reuse rows made < places
next-place true rows made places is left = left
next-place false rows made places is left = omega arith

pub make-object-requires-clause-place : goal.make-object-requires-clause-place
make-object-requires-clause-place g c =
    let old = c.args.objects.now in
    next-place old.reuse old.rows old.made old.notes.places c.requires.made c.requires.place

pub loop-held-init : goal.loop-held-init
loop-held-init g c =
    let n = c.make-object.result.0 in
    let at = c.make-object.ensures.number in
    let old = c.args.objects.now in
    let new = c.make-object.new.self in
    let rows = c.make-object.ensures.rows ∙ made_last old.rows _ _ c.requires.next in
    record {
      rows = refl;
      there = rw rows (rw (get_or_push old.rows _ None n (sym (at ∙ c.requires.next))) refl);
      counts =
          c.make-object.ensures.counts
          ∙ (ap (λ (k : ℕ). slice_set old.counts k 1) (sym at)
          ∙ (sym (set-set old.counts n 1 1) ∙ ap (λ l. slice_set l n 1)
          (ap (λ (k : ℕ). slice_set old.counts k 1) at ∙ sym c.make-object.ensures.counts)));
      last = ap (λ (k : ℕ). slice_index new.counts k) at ∙ c.make-object.ensures.one;
      made = refl;
      reuse = refl;
      notes = refl;
    }

pub loop-held-preserved : goal.loop-held-preserved
loop-held-preserved g c =
    let l = c.loop-held in
    let n = c.make-object.result.0 in
    let some : 0 < l._held = omega (arith, l.auto._held) in
    record {
      rows = c.add_ref.ensures.rows ∙ l.invariant.rows;
      there = rw c.add_ref.ensures.rows l.invariant.there;
      counts =
          more_counts c.make-object.new.self.counts l.objects.counts c.add_ref.new.self.counts n l._held l.invariant.counts
          l.invariant.last c.add_ref.ensures.counts;
      last = more_last l.objects.counts c.add_ref.new.self.counts n l._held some l.invariant.last c.add_ref.ensures.counts;
      made = c.add_ref.ensures.makings ∙ l.invariant.made;
      reuse = c.add_ref.ensures.mode ∙ l.invariant.reuse;
      notes = c.add_ref.ensures.notes ∙ l.invariant.notes;
    }

pub returns-clause-rows : goal.returns-clause-rows
returns-clause-rows g c =
    let old = c.args.objects.now in
    let rows = c.make-object.ensures.rows ∙ made_last old.rows _ _ c.requires.next in
    c.loop-held.invariant.rows
    ∙ (rows ∙ ap (λ (r : ObjectRow). old.rows ++ Some r ∷ [])
    (made_row c.args.row.now old.made (length old.rows) c.requires.alive (name_kept c.args.row.now.kind c.args.row.now.name c.requires.named) c.requires.made))

pub returns-clause-made : goal.returns-clause-made
returns-clause-made g c = c.loop-held.invariant.made ∙ c.make-object.ensures.makings

pub returns-clause-reuse : goal.returns-clause-reuse
returns-clause-reuse g c = c.loop-held.invariant.reuse ∙ c.make-object.ensures.mode

pub returns-clause-counts : goal.returns-clause-counts
returns-clause-counts g c =
    let n = c.make-object.result.0 in
    let at = c.make-object.ensures.number in
    let old = c.args.objects.now.counts in
    let end : c.loop-held._held ≡ c.args.count = omega (arith, c.loop-held.auto._held-end, c.requires.some, c.loop-held-test.false) in
    c.loop-held.invariant.counts
    ∙ (ap (λ l. slice_set l n c.loop-held._held)
    (c.make-object.ensures.counts ∙ ap (λ (k : ℕ). slice_set old k 1) (sym at))
    ∙ (set-set old n 1 c.loop-held._held ∙ (ap (slice_set old n) end
    ∙ ap (λ (k : ℕ). slice_set old k c.args.count) (at ∙ c.requires.next))))

pub returns-clause-notes : goal.returns-clause-notes
returns-clause-notes g c = c.loop-held.invariant.notes ∙ c.make-object.ensures.notes

pub returns-clause-last : goal.returns-clause-last
returns-clause-last g c =
    let end : c.loop-held._held ≡ c.args.count = omega (arith, c.loop-held.auto._held-end, c.requires.some, c.loop-held-test.false) in
    ap (λ (k : ℕ). slice_index c.loop-held.objects.counts k) (sym (c.make-object.ensures.number ∙ c.requires.next)) ∙ (c.loop-held.invariant.last ∙ end)
