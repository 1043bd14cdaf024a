use Rattle.std.proofs.Common.{◌≡◌, ◌<◌, [], length}
use Rattle.links.specs.Linked.{list_at, with_list}
use Rattle.kern_sync.proofs.sync.empty_list.Given as goal

-- with the rest of the list gone too, the lists are as they are to be
abbrev pub invariant-loop-node : goal.invariant-loop-node
invariant-loop-node l = (l.list < length l.links.lists) × (with_list l.links l.list [] ≡ with_list l.fn.links l.list [])

-- each turn leaves a node fewer
abbrev pub decreases-loop-node : goal.decreases-loop-node
decreases-loop-node l = length (list_at l.links l.list)
