use Rattle.cleanup.proofs.Filling.{AreGiven}
use Rattle.cleanup.proofs.duties.Duties.new.Given as goal

abbrev pub invariant-loop-node : goal.invariant-loop-node
invariant-loop-node l = AreGiven l.fn.threads l.node l.links
