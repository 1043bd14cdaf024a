use Rattle.std.proofs.Common.{ap, sym}
use Rattle.std.specs.Prelude.{not}
use Rattle.script_read.specs.NameNumbers.{name_number}
use Rattle.script_read.proofs.NameNumbers.{gap_found, listed_at, gap_unlisted, rising_more, listed_one_more}
use Rattle.script_read.proofs.name_set.NameSet.insert.Goals as goal

pub invariant_of-self-in-Err : goal.invariant_of-self-in-Err
invariant_of-self-in-Err c =
    let numbers = c.self.inside.numbers.items in
    let gap = gap_found numbers c.number_of-number.result c.in-Err.place c.self.invariant (rw c.as_slice.ensures.value at c.in-Err.ensures.position) in
    rw c.in_ok-insert-in-Err.ensures.items (rising_more numbers c.number_of-number.result c.in-Err.place c.self.invariant gap)

pub returns-in-Ok-clause-new : goal.returns-in-Ok-clause-new
returns-in-Ok-clause-new c =
    let position = rw (c.as_slice.ensures.value, c.number_of-number.ensures.number) at c.in-Ok.ensures.position in
    let inside = rw c.as_slice.ensures.value at c.in-Ok.ensures.bound in
    ap not (sym (rw c.self.view_is at (listed_at c.self.inside.numbers.items c.args.name.now c.in-Ok.field-0 inside c.self.invariant position)))

pub returns-in_ok-insert-in-Err-clause-new : goal.returns-in_ok-insert-in-Err-clause-new
returns-in_ok-insert-in-Err-clause-new c =
    let position = rw (c.as_slice.ensures.value, c.number_of-number.ensures.number) at c.in-Err.ensures.position in
    let gap = gap_found c.self.inside.numbers.items (name_number c.args.name.now) c.in-Err.place c.self.invariant position in
    ap not (sym (rw c.self.view_is at (gap_unlisted c.self.inside.numbers.items c.args.name.now c.in-Err.place gap)))

pub returns-in_ok-insert-in-Err-clause-more : goal.returns-in_ok-insert-in-Err-clause-more
returns-in_ok-insert-in-Err-clause-more c = λ new other text.
    let more = listed_one_more c.self.inside.numbers.items c.args.name.now c.in-Err.place c.number_of-number.ensures.text other text in
    rw (c.in_ok-insert-in-Err.ensures.items, c.number_of-number.ensures.number, ← c.self.view_is) more
