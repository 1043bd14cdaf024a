use Rattle.std.proofs.Common.{◌≡◌}
use Rattle.turn_lock.specs.Log.{Begins}
use Rattle.threads_tests.proofs.turn_lock_tests.Pile.add_all.Given as goal

abbrev pub invariant-loop-k : goal.invariant-loop-k
invariant-loop-k l = record {
  name : l.self.name ≡ l.fn.self.name;
  made : Begins l.fn.self.made.items l.self.made.items;
}
