use Rattle.handles.proofs.Marks.{IsSetBelow}
use Rattle.handles.proofs.free.FreePlaces.least_taken.Given as goal

abbrev pub invariant-loop-place : goal.invariant-loop-place
invariant-loop-place l = IsSetBelow l.self.words l.place
