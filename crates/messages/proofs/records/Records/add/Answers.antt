use Rattle.messages.proofs.Storing.{fresh, kept_added, store_added}
use Rattle.messages.proofs.records.Records.add.Goals as goal

pub invariant_of-self : goal.invariant_of-self
invariant_of-self c =
    let later = rw (← c.self.view_is) at c.requires.later in
    let kept = kept_added c.self.inside.numbers.items c.self.inside.keys.items c.self.inside.slab c.self.invariant.0
    c.insert_reserved-key.new.self c.insert_reserved-key.result c.args.message c.insert_reserved-key.ensures.was_vacant
    c.insert_reserved-key.ensures.updates c.insert_reserved-key.ensures.capacity
    (rw (← c.self.view_is) at c.requires.room) c.insert_reserved-key.ensures.len
    c.insert_reserved-key.ensures.key_in_range later in (
      rw (c.push_reserved.ensures.items, c.push_reserved-2.ensures.items) kept,
      rw c.push_reserved.ensures.capacity c.self.invariant.1,
      rw c.push_reserved-2.ensures.capacity c.self.invariant.2,
      rw c.insert_reserved-key.ensures.capacity c.self.invariant.3,
    )

pub returns-clause-added : goal.returns-clause-added
returns-clause-added c =
    rw (← c.self.view_is, c.push_reserved-2.ensures.items)
    (store_added c.self.inside.numbers.items c.self.inside.keys.items c.self.inside.slab c.self.invariant.0
    c.insert_reserved-key.new.self c.insert_reserved-key.result c.args.message c.insert_reserved-key.ensures.was_vacant
    c.insert_reserved-key.ensures.updates c.insert_reserved-key.ensures.capacity)

pub returns-clause-fresh : goal.returns-clause-fresh
returns-clause-fresh c =
    rw (← c.self.view_is) (fresh c.self.inside.numbers.items c.self.inside.keys.items c.self.inside.slab
    c.self.invariant.0 c.insert_reserved-key.new.self c.insert_reserved-key.result c.args.message
    c.insert_reserved-key.ensures.was_vacant c.insert_reserved-key.ensures.updates
    c.insert_reserved-key.ensures.capacity)
