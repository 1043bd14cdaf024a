use Rattle.std.proofs.Common.{◌<◌, length, arith}
use Rattle.std.proofs.lemmas.List.{get_or_read}
use Rattle.messages.proofs.Storing.{absent_stays, as_long, kept_gone, store_gone}
use Rattle.messages.proofs.records.Records.remove.Goals as goal

pub returns-in_default : goal.returns-in_default
returns-in_default c =
    rw (← c.self.view_is) (absent_stays c.self.inside.numbers.items c.self.inside.keys.items c.self.inside.slab
    c.self.invariant.0 c.args.m (rw c.deref.ensures.value at c.in_default.ensures.absent))

pub invariant_of-self : goal.invariant_of-self
invariant_of-self c =
    let found = rw c.deref.ensures.value at c.in-Some.ensures.found in
    let inside : c.in-Some.place < length c.self.inside.keys.items =
    omega (
      arith,
      found.0,
      as_long c.self.inside.numbers.items c.self.inside.keys.items c.self.inside.slab
          c.self.invariant.0,
    ) in
    let key = get_or_read c.self.inside.keys.items c.in-Some.place c.remove-key.result inside c.remove-key.ensures.value 0 in
    let kept = kept_gone c.self.inside.numbers.items c.self.inside.keys.items c.self.inside.slab c.self.invariant.0
    c.remove-2.new.self c.in-Some.place inside
    (rw key at c.remove-2.ensures.updates) c.remove-2.ensures.capacity c.remove-2.ensures.len in (
      rw (c.remove.ensures.items, c.remove-key.ensures.items) kept,
      rw c.remove.ensures.capacity c.self.invariant.1,
      rw c.remove-key.ensures.capacity c.self.invariant.2,
      rw c.remove-2.ensures.capacity c.self.invariant.3,
    )

pub returns : goal.returns
returns c =
    let found = rw c.deref.ensures.value at c.in-Some.ensures.found in
    let inside : c.in-Some.place < length c.self.inside.keys.items =
    omega (
      arith,
      found.0,
      as_long c.self.inside.numbers.items c.self.inside.keys.items c.self.inside.slab
          c.self.invariant.0,
    ) in
    let key = get_or_read c.self.inside.keys.items c.in-Some.place c.remove-key.result inside c.remove-key.ensures.value 0 in
    rw (← c.self.view_is, c.remove-key.ensures.items)
    (store_gone c.self.inside.numbers.items c.self.inside.keys.items c.self.inside.slab c.self.invariant.0
    c.remove-2.new.self c.in-Some.place inside
    (rw key at c.remove-2.ensures.updates) c.remove-2.ensures.capacity c.args.m found.1)
