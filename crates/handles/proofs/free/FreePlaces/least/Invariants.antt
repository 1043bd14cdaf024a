use Rattle.handles.proofs.Marks.{IsClearBelow}
use Rattle.handles.proofs.free.FreePlaces.least.Given as goal

abbrev pub invariant-loop-place : goal.invariant-loop-place
invariant-loop-place l = IsClearBelow l.self.words l.place
