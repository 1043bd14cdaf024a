use Rattle.std.proofs.Common.{◌≡◌, length}
use Rattle.state_rows.specs.NanoChanges.{new_rows}
use Rattle.kcore.proofs.BootNano.{held_so_far}
use Rattle.kcore.proofs.boot.nano_of.Given as goal

abbrev pub invariant-loop-number : goal.invariant-loop-number
invariant-loop-number l = l.nano ≡ record (new_rows (length l.all) l.fast) { suspensions = held_so_far l.all l.number }
