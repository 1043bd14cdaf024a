use Rattle.std.proofs.Common.{◌≡◌, ◌++◌, drop, map}
use Rattle.machine.specs.Boot.{held_count}
use Rattle.machine.proofs.boot_rows.suspensions_of.Given as goal

abbrev pub invariant-loop-born : goal.invariant-loop-born
invariant-loop-born l = l.suspensions.items ++ map held_count (drop l.born-index l.all) ≡ map held_count l.all
