use Rattle.std.proofs.Common.{◌≡◌}
use Rattle.turn_lock.specs.Passes.{caller_of, IsFree}
use Rattle.sharing_tests.proofs.thread_tests.drive.Given as goal

-- the caller is in no turn
abbrev pub invariant-loop-turn : goal.invariant-loop-turn
invariant-loop-turn g l = record {
  free : IsFree l.kernel l.pass;
  caller : caller_of l.pass ≡ caller_of l.fn.pass;
}
