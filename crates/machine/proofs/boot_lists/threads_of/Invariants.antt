use Rattle.std.proofs.Common.{◌≡◌, ◌++◌, drop, map}
use Rattle.machine.specs.declared.boot.Born.{Born}
use Rattle.machine.proofs.boot_lists.threads_of.Given as goal

abbrev pub invariant-loop-born : goal.invariant-loop-born
invariant-loop-born l = l.threads.items ++ map (λ (b : Born). b.thread) (drop l.born-index l.all) ≡ map (λ (b : Born). b.thread) l.all
