use Rattle.std.proofs.Common.{◌≡◌}
use Rattle.turn_lock.specs.Passes.{caller_of}
use Rattle.workers.specs.Rested.{IsRested}
use Rattle.workers.proofs.work.work.Given as goal

-- the worker came back from what it found
abbrev pub invariant-loop : goal.invariant-loop
invariant-loop g l = record {
  rested : IsRested l.kernel l.pass;
  caller : caller_of l.pass ≡ caller_of l.fn.pass;
}
