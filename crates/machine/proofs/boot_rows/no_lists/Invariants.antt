use Rattle.std.proofs.Common.{◌≡◌, [], replicate}
use Rattle.machine.proofs.boot_rows.no_lists.Given as goal

abbrev pub invariant-loop-object : goal.invariant-loop-object
invariant-loop-object g l = l.lists.items ≡ replicate l._object []
