use Rattle.std.proofs.Common.{◌≡◌, ◌*◌, arith}
use Rattle.cleanup.proofs.Filling.{none_given, more_given, nothing_owed}
use Rattle.cleanup.proofs.duties.Duties.new.Goals as goal

pub loop-node-init : goal.loop-node-init
loop-node-init c = rw c.in_ok-links.ensures (none_given c.args.threads)

pub loop-node-preserved : goal.loop-node-preserved
loop-node-preserved c =
    rw c.push_back.ensures (more_given c.args.threads c.loop-node.node c.loop-node.links c.loop-node-test.true c.loop-node.invariant)

pub returns : goal.returns
returns c =
    let end : c.loop-node.node ≡ c.args.threads * 16 = omega arith in
    nothing_owed c.args.threads c.loop-node.links c.in_ok-rows.rows.items (rw end at c.loop-node.invariant)
