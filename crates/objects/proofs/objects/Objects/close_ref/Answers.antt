use Rattle.std.proofs.Common.{◌≡◌, ◌-◌, ap, sym, ◌∙◌, arith, length-set}
use Rattle.ref_words.specs.Words.{Words}
use Rattle.objects.proofs.Keeping.{counted_alive, kept_counts, kept_dead, own_is, read_own, row_made, there_row}
use Rattle.objects.proofs.Listing.{listed_closed}
use Rattle.objects.proofs.objects.Objects.close_ref.Goals as goal

pub close-left-requires : goal.close-left-requires
close-left-requires g c =
    let there = rw (← c.self.view_is) at c.requires.there in
    let known = rw (← c.self.view_is) at c.requires.known in
    let place = rw (← c.self.view_is) at c.place_at-place.ensures in
    rw (place, ← own_is _ _ _ _ _ _ c.self.invariant.0 c.args.o.0 there) known

pub invariant_of-self : goal.invariant_of-self
invariant_of-self g c =
    let kept = c.self.invariant.0 in
    let row = there_row _ (rw (← c.self.view_is) at c.requires.there) in
    let live = counted_alive _ _ _ _ _ _ kept c.args.o.0 row.0 row.1 (rw (← c.self.view_is) at c.requires.known) in
    let read = read_own _ _ _ _ _ _ kept c.args.o.0 c.index_mut.result.now row.0 row.1 c.index_mut.ensures.value in
    let place = rw (← c.self.view_is, row.1) at c.place_at-place.ensures in
    let words = rw (c.in-Stays.is, place) at c.close-left.ensures.closes in (
      kept_counts _ _ _ _ _ _ kept c.args.o.0 row.0 _ _ _ row.1 live
          (ap (λ (w : Words). w.own) words) (ap (λ (w : Words). w.stages) words) (ap (λ n. n - 1) read),
      rw (words, length-set) c.self.invariant.1,
      rw (words, length-set) c.self.invariant.2,
      c.self.invariant.3,
    )

pub invariant_of-self-in-Last : goal.invariant_of-self-in-Last
invariant_of-self-in-Last g c =
    let kept = c.self.invariant.0 in
    let row = there_row _ (rw (← c.self.view_is) at c.requires.there) in
    let read = read_own _ _ _ _ _ _ kept c.args.o.0 c.index_mut.result.now row.0 row.1 c.index_mut.ensures.value in
    let place = rw (← c.self.view_is, row.1) at c.place_at-place.ensures in
    let words = rw (c.in-Last.is, place) at c.close-left.ensures.closes in
    let one = rw place at (c.close-left.ensures.last c.in-Last.is) in
    let zero : c.index_mut.result.now - 1 ≡ 0 = rw (read, one) (omega arith) in (
      rw c.bury.ensures.rows (kept_dead _ _ _ _ _ _ kept c.args.o.0 row.0 _ _ _ row.1
          (ap (λ (w : Words). w.own) words) (ap (λ (w : Words). w.stages) words) (ap (λ n. n - 1) read) zero),
      rw (words, length-set) (omega (arith, c.self.invariant.1, c.bury.ensures.room)),
      rw (words, length-set) c.self.invariant.2,
      rw c.bury.ensures.rows (listed_closed c.self.inside.rows.items c.self.inside.names c.args.o.0 c.self.invariant.3
          (row_made c.self.inside.rows.items c.args.o.0 row.0 row.1)),
    )
