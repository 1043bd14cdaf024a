use Rattle.std.proofs.Common.{sym, ◌∙◌}
use Rattle.std.proofs.lemmas.List.{get_or_read}
use Rattle.std.proofs.Common.{◌<◌, length, arith}
use Rattle.messages.proofs.Storing.{absent_number, as_long, under_found}
use Rattle.messages.proofs.records.Records.find.Goals as goal

pub returns-in_err-place-clause-found : goal.returns-in_err-place-clause-found
returns-in_err-place-clause-found c =
    rw (← c.self.view_is) (c.from_residual.ensures
    ∙ sym (absent_number c.self.inside.numbers.items c.self.inside.keys.items c.self.inside.slab c.self.invariant.0
    c.args.m (rw c.deref.ensures.value at c.in_err-place.ensures.absent)))

pub returns-clause-found : goal.returns-clause-found
returns-clause-found c =
    let found = rw c.deref.ensures.value at c.in_ok-place.ensures.found in
    let inside : c.in_ok-place.place < length c.self.inside.keys.items =
    omega (
      arith,
      found.0,
      as_long c.self.inside.numbers.items c.self.inside.keys.items c.self.inside.slab
          c.self.invariant.0,
    ) in
    let key = get_or_read c.self.inside.keys.items c.in_ok-place.place c.index-key.result.now inside c.index-key.ensures 0 in
    rw (← c.self.view_is) (under_found c.self.inside.numbers.items c.self.inside.keys.items c.self.inside.slab
    c.self.invariant.0 c.args.m c.in_ok-place.place c.index-key.result.now c.index.result.now found.0 found.1 key
    c.index.ensures).1

pub returns-clause-under : goal.returns-clause-under
returns-clause-under c =
    let found = rw c.deref.ensures.value at c.in_ok-place.ensures.found in
    let inside : c.in_ok-place.place < length c.self.inside.keys.items =
    omega (
      arith,
      found.0,
      as_long c.self.inside.numbers.items c.self.inside.keys.items c.self.inside.slab
          c.self.invariant.0,
    ) in
    let key = get_or_read c.self.inside.keys.items c.in_ok-place.place c.index-key.result.now inside c.index-key.ensures 0 in
    rw (← c.self.view_is) (under_found c.self.inside.numbers.items c.self.inside.keys.items c.self.inside.slab
    c.self.invariant.0 c.args.m c.in_ok-place.place c.index-key.result.now c.index.result.now found.0 found.1 key
    c.index.ensures).0
