use Rattle.std.proofs.Common.{◌≡◌, ◌<◌, length, arith, length-set}
use Rattle.state_rows.specs.ObjectRows.{next_number}
use Rattle.objects.proofs.Keeping.{answer_is, kept_made, place_left}
use Rattle.objects.proofs.Numbers.{next_is}
use Rattle.objects.proofs.objects.Objects.make.Goals as goal

-- the number is free, and a row has it or comes next
pub list-requires-clause-free : goal.list-requires-clause-free
list-requires-clause-free g c =
    let number = rw (← c.self.view_is) at c.next-number.ensures.number in
    rw (c.deref-2.ensures.value, number) (next_is c.self.inside.reuse c.self.inside.rows.items).1

-- the words have a place for the new object
pub create-requires : goal.create-requires
create-requires g c =
    let kept = c.self.invariant.0 in
    let number = rw (← c.self.view_is) at c.next-number.ensures.number in
    let within = rw (← c.self.view_is) at c.next-number.ensures.within in
    let room : c.next-number.result < 4096 = omega (arith, within, kept.limited) in
    let untaken = (rw c.deref.ensures.value at c.in-Some.ensures).0 in
    let left = place_left _ _ _ _ _ _ kept _ _ _ _ untaken number room (rw (← c.self.view_is) at c.requires.place) in
    let made : c.len-made.result ≡ length c.self.inside.numbers.items = omega arith in
    rw made (kept.fresh (length c.self.inside.numbers.items) (omega arith) left)

pub place_row-requires-clause-room : goal.place_row-requires-clause-room
place_row-requires-clause-room g c =
    let kept = c.self.invariant.0 in
    let number = rw (← c.self.view_is) at c.next-number.ensures.number in
    let within = rw (← c.self.view_is) at c.next-number.ensures.within in
    let room : c.next-number.result < 4096 = omega (arith, within, kept.limited) in
    let untaken = (rw c.deref.ensures.value at c.in-Some.ensures).0 in
    let left = place_left _ _ _ _ _ _ kept _ _ _ _ untaken number room (rw (← c.self.view_is) at c.requires.place) in
    omega (arith, kept.limited, kept.long, left, within, c.self.invariant.1)

pub place_row-requires-clause-more : goal.place_row-requires-clause-more
place_row-requires-clause-more g c =
    let kept = c.self.invariant.0 in
    let number = rw (← c.self.view_is) at c.next-number.ensures.number in
    let within = rw (← c.self.view_is) at c.next-number.ensures.within in
    let room : c.next-number.result < 4096 = omega (arith, within, kept.limited) in
    let untaken = (rw c.deref.ensures.value at c.in-Some.ensures).0 in
    let left = place_left _ _ _ _ _ _ kept _ _ _ _ untaken number room (rw (← c.self.view_is) at c.requires.place) in
    omega (arith, kept.limited, kept.long, left, c.self.invariant.1)

pub push_reserved-requires : goal.push_reserved-requires
push_reserved-requires g c =
    let kept = c.self.invariant.0 in
    let number = rw (← c.self.view_is) at c.next-number.ensures.number in
    let within = rw (← c.self.view_is) at c.next-number.ensures.within in
    let room : c.next-number.result < 4096 = omega (arith, within, kept.limited) in
    let untaken = (rw c.deref.ensures.value at c.in-Some.ensures).0 in
    let left = place_left _ _ _ _ _ _ kept _ _ _ _ untaken number room (rw (← c.self.view_is) at c.requires.place) in
    omega (arith, left, c.self.invariant.2)

pub index_mut-requires : goal.index_mut-requires
index_mut-requires g c = omega (arith, c.self.invariant.0.sized, c.next-number.ensures.within, c.next-number.ensures.few)

pub invariant_of-self : goal.invariant_of-self
invariant_of-self g c =
    let kept = c.self.invariant.0 in
    let number = rw (← c.self.view_is) at c.next-number.ensures.number in
    let within = rw (← c.self.view_is) at c.next-number.ensures.within in
    let room : c.next-number.result < 4096 = omega (arith, within, kept.limited) in
    let untaken = (rw c.deref.ensures.value at c.in-Some.ensures).0 in
    let made : c.len-made.result ≡ length c.self.inside.numbers.items = omega arith in
    let left = place_left _ _ _ _ _ _ kept _ _ _ _ untaken number room (rw (← c.self.view_is) at c.requires.place) in (
      rw (c.create.ensures, c.place_row.ensures.rows, c.kept_name.ensures, c.push_reserved.ensures.items, made)
          (kept_made c.self.inside.rows.items c.self.inside.counts.items c.self.inside.numbers.items c.self.inside.reuse
          c.self.inside.free.words _ kept c.args.kind c.args.name.now c.next-number.result _ number room left untaken
          c.take.ensures.taken c.take.ensures.others),
      rw (c.create.ensures, length-set) (omega (arith, c.self.invariant.1, c.place_row.ensures.capacity)),
      rw (c.create.ensures, length-set) (omega (arith, c.self.invariant.2, c.push_reserved.ensures.capacity)),
      rw (c.place_row.ensures.rows, c.kept_name.ensures) (rw c.deref-2.ensures.value at c.list.ensures),
    )

pub returns-clause-answer : goal.returns-clause-answer
returns-clause-answer g c =
    let kept = c.self.invariant.0 in
    let number = rw (← c.self.view_is) at c.next-number.ensures.number in
    let within = rw (← c.self.view_is) at c.next-number.ensures.within in
    let room : c.next-number.result < 4096 = omega (arith, within, kept.limited) in
    let untaken = (rw c.deref.ensures.value at c.in-Some.ensures).0 in
    rw (← c.self.view_is) (answer_is c.self.inside.reuse c.self.inside.rows.items c.args.kind c.args.name.now c.next-number.result untaken number room)
