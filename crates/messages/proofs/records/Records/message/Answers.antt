use Rattle.messages.proofs.Storing.{there_of_key, under_key_of}
use Rattle.messages.proofs.records.Records.message.Goals as goal

pub index-requires : goal.index-requires
index-requires c =
    there_of_key c.self.inside.numbers.items c.self.inside.keys.items c.self.inside.slab c.self.invariant.0 c.args.key (rw (← c.self.view_is) at c.requires)

pub returns : goal.returns
returns c =
    rw (← c.self.view_is) (rw c.index.ensures at
    (under_key_of c.self.inside.numbers.items c.self.inside.keys.items c.self.inside.slab c.self.invariant.0 c.args.key
    (rw (← c.self.view_is) at c.requires)))
