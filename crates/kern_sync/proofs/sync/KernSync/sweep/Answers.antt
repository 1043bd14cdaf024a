use Rattle.std.proofs.Common.{length-set}
use Rattle.kern_sync.proofs.Waiting.{emptied_kept, list_emptied}
use Rattle.kern_sync.proofs.sync.KernSync.sweep.Goals as goal

pub empty_list-requires : goal.empty_list-requires
empty_list-requires c = rw c.self.invariant.lists (rw (← c.self.view_is) at c.requires)

pub invariant_of-self : goal.invariant_of-self
invariant_of-self c =
    rw c.empty_list.ensures
    (emptied_kept c.self.inside.owners.items c.self.inside.counts.items c.self.inside.priorities.items
    c.self.inside.links c.args.o.0 c.self.invariant)

pub returns : goal.returns
returns c =
    rw (← c.self.view_is, c.empty_list.ensures)
    (list_emptied c.self.inside.owners.items c.self.inside.counts.items c.self.inside.priorities.items
    c.self.inside.links c.args.o)
