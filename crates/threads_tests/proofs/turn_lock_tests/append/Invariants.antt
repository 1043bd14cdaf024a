use Rattle.std.proofs.Common.{◌≡◌}
use Rattle.turn_lock.specs.Passes.{caller_of, IsFree}
use Rattle.threads_tests.proofs.turn_lock_tests.append.Given as goal

abbrev pub invariant-loop-number : goal.invariant-loop-number
invariant-loop-number g l = record {
  free : IsFree l.lock l.pass;
  caller : caller_of l.pass ≡ caller_of l.fn.pass;
}
