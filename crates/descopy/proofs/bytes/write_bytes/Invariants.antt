use Rattle.std.proofs.Common.{◌≡◌}
use Rattle.descopy.proofs.Writing.{with_pasted}
use Rattle.descopy.proofs.bytes.write_bytes.Given as goal

abbrev pub invariant-loop-k : goal.invariant-loop-k
invariant-loop-k l = l.procs ≡ with_pasted l.initial.procs l.to.process l.to.at l.bytes l.k
