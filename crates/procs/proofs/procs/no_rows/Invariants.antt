use Rattle.std.proofs.Common.{◌≡◌, ◌≤◌, None, replicate, vec_len, vec_capacity}
use Rattle.procs.proofs.procs.no_rows.Given as goal

abbrev pub invariant-loop : goal.invariant-loop
invariant-loop g l = (l.rows.items ≡ replicate l.counter None) × (vec_len l.rows ≡ l.counter) × (l.count ≤ vec_capacity l.rows)
