use Rattle.std.proofs.Common.{◌≡◌, ℤ, pos, List, replicate}
use Rattle.requests.proofs.table.new_statuses.Given as goal

abbrev pub invariant-loop : goal.invariant-loop
invariant-loop l = l.statuses.items ≡ replicate {A = List ℤ} l.counter (replicate 16 (pos 0))
