use Rattle.std.proofs.Common.{◌≡◌, ◌++◌}
use Rattle.load_maker.specs.Made.{served}
use Rattle.load_maker.proofs.threads.push_served.Given as goal

-- the pairs so far
abbrev pub invariant-loop-pair : goal.invariant-loop-pair
invariant-loop-pair l = l.instrs.items ≡ l.fn.instrs.items ++ served l._pair
