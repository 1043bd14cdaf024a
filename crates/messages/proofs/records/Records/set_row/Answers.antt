use Rattle.std.proofs.Common.{refl}
use Rattle.slab.specs.Slab.{with_value}
use Rattle.slab.proofs.SlabLemmas.{Updates-with_value}
use Rattle.messages.proofs.Storing.{there_of_key, store_edited}
use Rattle.messages.proofs.records.Records.set_row.Goals as goal

pub index_mut-requires : goal.index_mut-requires
index_mut-requires c =
    there_of_key c.self.inside.numbers.items c.self.inside.keys.items c.self.inside.slab c.self.invariant.0 c.args.key (rw (← c.self.view_is) at c.requires)

pub returns : goal.returns
returns c =
    let there = there_of_key c.self.inside.numbers.items c.self.inside.keys.items c.self.inside.slab c.self.invariant.0
    c.args.key (rw (← c.self.view_is) at c.requires) in
    rw (← c.self.view_is) (store_edited c.self.inside.numbers.items c.self.inside.keys.items c.self.inside.slab
    c.self.invariant.0 (with_value c.self.inside.slab c.args.key (record c.index_mut.result.now { row = c.args.row }))
    c.args.key c.index_mut.result.now c.args.row c.index_mut.ensures.value
    (Updates-with_value c.self.inside.slab c.args.key (record c.index_mut.result.now { row = c.args.row }) there) refl)
