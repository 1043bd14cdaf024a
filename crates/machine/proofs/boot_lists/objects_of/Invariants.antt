use Rattle.std.proofs.Common.{◌≡◌, ◌++◌, drop}
use Rattle.machine.specs.Boot.{objects_from}
use Rattle.machine.proofs.boot_lists.objects_of.Given as goal

abbrev pub invariant-loop-n : goal.invariant-loop-n
invariant-loop-n l = l.objects.items ++ objects_from l.n (drop l.n l.all) ≡ objects_from 0 l.all
