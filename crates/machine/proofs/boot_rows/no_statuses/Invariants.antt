use Rattle.std.proofs.Common.{◌≡◌, pos, replicate}
use Rattle.machine.proofs.boot_rows.no_statuses.Given as goal

abbrev pub invariant-loop-thread : goal.invariant-loop-thread
invariant-loop-thread l = l.statuses.items ≡ replicate l._thread (replicate 16 (pos 0))
