use Rattle.std.proofs.Common.{◌≡◌, ◌∙◌, ◌≤◌, ap, arith, get_or, length, refl}
use Rattle.std.proofs.lemmas.List.{get_or_read}
use Rattle.ref_words.specs.Words.{Words}
use Rattle.objects.proofs.Keeping.{alive_held, alive_there, counts_back, created_made, held_back, held_is, inside_back, is_held, kept_back, row_made, same_room, small_back}
use Rattle.objects.proofs.objects.Objects.take_back.Goals as goal

-- the note is of a place that was given
pub index-number-requires : goal.index-number-requires
index-number-requires g c =
    let p = (g.W.RefWords.slip c.args.note).place in
    let low = created_made _ _ _ _ _ _ c.self.invariant.0 p c.take_back-found.ensures.created c.take_back-found.ensures.placed in
    rw c.place_of-place.ensures (omega (arith, low))

pub count_found-requires-clause-inside : goal.count_found-requires-clause-inside
count_found-requires-clause-inside g c =
    let kept = c.self.invariant.0 in
    let p = (g.W.RefWords.slip c.args.note).place in
    let low = created_made _ _ _ _ _ _ kept p c.take_back-found.ensures.created c.take_back-found.ensures.placed in
    let read = rw c.place_of-place.ensures at c.index-number.ensures in
    rw (get_or_read c.self.inside.numbers.items p c.index-number.result.now low read 0)
    (inside_back _ _ _ _ _ _ kept c.take_back-found.result p low c.take_back-found.ensures.dead)

pub count_found-requires-clause-small : goal.count_found-requires-clause-small
count_found-requires-clause-small g c =
    let kept = c.self.invariant.0 in
    let p = (g.W.RefWords.slip c.args.note).place in
    let low = created_made _ _ _ _ _ _ kept p c.take_back-found.ensures.created c.take_back-found.ensures.placed in
    let read = rw c.place_of-place.ensures at c.index-number.ensures in
    rw (get_or_read c.self.inside.numbers.items p c.index-number.result.now low read 0)
    (small_back _ _ _ _ _ _ kept c.take_back-found.result p (g.W.RefWords.meaning c.take_back-found.new.self) low c.take_back-found.ensures.dead
    (ap (λ (w : Words). w.own) c.take_back-found.ensures.taken) c.take_back-found.ensures.bounded)

pub invariant_of-self : goal.invariant_of-self
invariant_of-self g c =
    let kept = c.self.invariant.0 in
    let p = (g.W.RefWords.slip c.args.note).place in
    let low = created_made _ _ _ _ _ _ kept p c.take_back-found.ensures.created c.take_back-found.ensures.placed in
    let read = rw c.place_of-place.ensures at c.index-number.ensures in
    let words = c.take_back-found.ensures.taken in
    let room = ap (λ (w : Words). length w.own) words ∙ same_room c.take_back-found.result _ p in (
      rw (c.count_found.ensures, get_or_read c.self.inside.numbers.items p c.index-number.result.now low read 0)
          (kept_back _ _ _ _ _ _ kept c.take_back-found.result p _ low c.take_back-found.ensures.dead
          (ap (λ (w : Words). w.own) words) (ap (λ (w : Words). w.stages) words)),
      rw room c.self.invariant.1,
      rw room c.self.invariant.2,
      c.self.invariant.3,
    )

pub returns-clause-counts : goal.returns-clause-counts
returns-clause-counts g c =
    let kept = c.self.invariant.0 in
    let p = (g.W.RefWords.slip c.args.note).place in
    let low = created_made _ _ _ _ _ _ kept p c.take_back-found.ensures.created c.take_back-found.ensures.placed in
    let read = rw c.place_of-place.ensures at c.index-number.ensures in
    rw (← c.self.view_is) (λ o sought.
    rw (c.count_found.ensures, get_or_read c.self.inside.numbers.items p c.index-number.result.now low read 0)
    (counts_back _ _ _ _ _ _ kept c.take_back-found.result p o low c.take_back-found.ensures.dead sought))

pub returns-clause-gone : goal.returns-clause-gone
returns-clause-gone g c = rw (← c.self.view_is) (λ dead. rw (c.count_found.ensures, dead) refl)

pub returns-clause-stands : goal.returns-clause-stands
returns-clause-stands g c =
    let kept = c.self.invariant.0 in
    let p = (g.W.RefWords.slip c.args.note).place in
    let low = created_made _ _ _ _ _ _ kept p c.take_back-found.ensures.created c.take_back-found.ensures.placed in
    rw (← c.self.view_is) (λ held.
    let there = held_back _ _ _ _ _ _ kept c.take_back-found.result p low c.take_back-found.ensures.dead held in
    (get_or c.self.inside.numbers.items p 0, there.0, there.1))

pub returns-clause-made : goal.returns-clause-made
returns-clause-made g c =
    rw (← c.self.view_is) (created_made _ _ _ _ _ _ c.self.invariant.0 _ c.take_back-found.ensures.created c.take_back-found.ensures.placed)

pub returns-clause-held : goal.returns-clause-held
returns-clause-held g c =
    let kept = c.self.invariant.0 in
    let p = (g.W.RefWords.slip c.args.note).place in
    let low = created_made _ _ _ _ _ _ kept p c.take_back-found.ensures.created c.take_back-found.ensures.placed in
    rw (← c.self.view_is) (λ o sought. (
      λ held. held_is _ _ _ _ _ _ kept p o low sought
          (λ gone. let no = c.take_back-found.ensures.dead.1 gone in absurd (cc)),
      λ alive. is_held c.take_back-found.result (λ dead. alive_held _ _ _ _ _ _ kept p o alive (c.take_back-found.ensures.dead.0 dead)),
    ))

pub returns-clause-inside : goal.returns-clause-inside
returns-clause-inside g c =
    let kept = c.self.invariant.0 in
    let p = (g.W.RefWords.slip c.args.note).place in
    let low = created_made _ _ _ _ _ _ kept p c.take_back-found.ensures.created c.take_back-found.ensures.placed in
    rw (← c.self.view_is) (λ o sought is.
    let held = held_is _ _ _ _ _ _ kept p o low sought
    (λ gone. let no = c.take_back-found.ensures.dead.1 gone in absurd (cc)) in
    let row = alive_there _ held.0 in
    let made = row_made c.self.inside.rows.items o row.0 row.1 in
    omega (arith, kept.sized, kept.limited, made))
