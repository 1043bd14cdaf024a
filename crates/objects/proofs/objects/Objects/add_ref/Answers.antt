use Rattle.std.proofs.Common.{◌+◌, ap, length-set}
use Rattle.ref_words.specs.Words.{Words}
use Rattle.objects.proofs.Keeping.{counted_alive, kept_counts, own_is, read_own, there_row}
use Rattle.objects.proofs.objects.Objects.add_ref.Goals as goal

pub open_known-requires-clause-known : goal.open_known-requires-clause-known
open_known-requires-clause-known g c =
    let there = rw (← c.self.view_is) at c.requires.there in
    let known = rw (← c.self.view_is) at c.requires.known in
    let place = rw (← c.self.view_is) at c.place_at-place.ensures in
    rw (place, ← own_is _ _ _ _ _ _ c.self.invariant.0 c.args.o.0 there) known

pub open_known-requires-clause-small : goal.open_known-requires-clause-small
open_known-requires-clause-small g c =
    let there = rw (← c.self.view_is) at c.requires.there in
    let small = rw (← c.self.view_is) at c.requires.small in
    let place = rw (← c.self.view_is) at c.place_at-place.ensures in
    rw (place, ← own_is _ _ _ _ _ _ c.self.invariant.0 c.args.o.0 there) small

pub invariant_of-self : goal.invariant_of-self
invariant_of-self g c =
    let kept = c.self.invariant.0 in
    let row = there_row _ (rw (← c.self.view_is) at c.requires.there) in
    let live = counted_alive _ _ _ _ _ _ kept c.args.o.0 row.0 row.1 (rw (← c.self.view_is) at c.requires.known) in
    let read = read_own _ _ _ _ _ _ kept c.args.o.0 c.index_mut.result.now row.0 row.1 c.index_mut.ensures.value in
    let place = rw (← c.self.view_is, row.1) at c.place_at-place.ensures in
    let words = rw place at c.open_known.ensures in (
      kept_counts _ _ _ _ _ _ kept c.args.o.0 row.0 _ _ _ row.1 live
          (ap (λ (w : Words). w.own) words) (ap (λ (w : Words). w.stages) words) (ap (λ n. n + 1) read),
      rw (words, length-set) c.self.invariant.1,
      rw (words, length-set) c.self.invariant.2,
      c.self.invariant.3,
    )

pub returns-clause-words : goal.returns-clause-words
returns-clause-words g c =
    let place = rw (← c.self.view_is) at c.place_at-place.ensures in
    rw (← c.self.view_is) (rw place at c.open_known.ensures)
