use Rattle.std.proofs.Common.{◌≡◌, ◌++◌, drop}
use Rattle.machine.specs.Boot.{ready_from}
use Rattle.machine.proofs.boot_lists.ready_from.Given as goal

abbrev pub invariant-loop-n : goal.invariant-loop-n
invariant-loop-n l = l.ready.items ++ ready_from l.n (drop l.n l.all) ≡ ready_from 0 l.all
