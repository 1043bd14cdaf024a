use Rattle.std.proofs.Common.{refl}
use Rattle.kern_sync.proofs.Emptied.{popped_shorter, popped_still, none_left}
use Rattle.kern_sync.proofs.sync.empty_list.Goals as goal

pub loop-node-init : goal.loop-node-init
loop-node-init c = (c.requires, refl)

pub loop-node-preserved : goal.loop-node-preserved
loop-node-preserved c = popped_still _ _ _ _ c.loop-node.invariant c.in-Some.ensures.popped

pub loop-node-smaller : goal.loop-node-smaller
loop-node-smaller c = popped_shorter _ _ _ _ c.loop-node.invariant.0 c.in-Some.ensures.popped c.in-Some.ensures.first

pub returns : goal.returns
returns c = none_left _ _ _ _ c.loop-node.invariant.1 c.in_default.ensures.popped (c.in_default.ensures.none.0 refl)
