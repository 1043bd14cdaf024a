use Rattle.std.proofs.Common.{◌≡◌, ◌++◌, drop, map, []}
use Rattle.machine.specs.declared.boot.Born.{Born}
use Rattle.machine.proofs.boot_lists.empty_lists.Given as goal

abbrev pub invariant-loop-born : goal.invariant-loop-born
invariant-loop-born g l = l.lists.items ++ map (λ (b : Born). []) (drop l._born-index l.all) ≡ map (λ (b : Born). []) l.all
