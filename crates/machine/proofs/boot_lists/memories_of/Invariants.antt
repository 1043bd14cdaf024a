use Rattle.std.proofs.Common.{◌≡◌, ◌++◌, drop, map}
use Rattle.machine.specs.Boot.{memory_of}
use Rattle.machine.proofs.boot_lists.memories_of.Given as goal

abbrev pub invariant-loop-born : goal.invariant-loop-born
invariant-loop-born l = l.memories.items ++ map memory_of (drop l.born-index l.all) ≡ map memory_of l.all
