use Rattle.std.proofs.Common.{length}
use Rattle.script_read.proofs.ProgressLaws.{IsReadTo}
use Rattle.script_read.proofs.progress.read_text.Given as goal

abbrev pub invariant-loop-rest : goal.invariant-loop-rest
invariant-loop-rest l = IsReadTo l.fn.text l.rest l.number l.progress

abbrev pub decreases-loop-rest : goal.decreases-loop-rest
decreases-loop-rest l = length l.rest
