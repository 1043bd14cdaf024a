use Rattle.std.proofs.Common.{◌≡◌, ◌≤◌, replicate, vec_len, vec_capacity}
use Rattle.procs.specs.Rows.{no_bytes}
use Rattle.procs.proofs.procs.zero_memories.Given as goal

abbrev pub invariant-loop : goal.invariant-loop
invariant-loop l = (l.memories.items ≡ replicate l.counter no_bytes) × (vec_len l.memories ≡ l.counter) × (l.count ≤ vec_capacity l.memories)
