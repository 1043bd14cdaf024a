use Rattle.objects.proofs.Marks.{IsClearBelow}
use Rattle.objects.proofs.free.FreeNumbers.least.Given as goal

abbrev pub invariant-loop-place : goal.invariant-loop-place
invariant-loop-place l = IsClearBelow l.self.words l.place
