use Rattle.links.proofs.Owned.{owned_pushed}
use Rattle.cleanup.proofs.items.ThreadItems.push.Goals as goal

pub invariant_of-self : goal.invariant_of-self
invariant_of-self c =
    let listed = rw (← c.self.view_is) at c.requires.thread in
    let node = rw (← c.self.view_is) at c.requires.item in
    let unheld = rw (← c.self.view_is) at c.requires.free in
    rw c.push_back.ensures (owned_pushed c.self.inside.links c.self.inside.owners.items c.self.invariant c.args.t.0 c.args.item listed node unheld)
