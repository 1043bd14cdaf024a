use Rattle.std.proofs.Common.{◌≡◌, ℕ, List, [], replicate}
use Rattle.state_rows.proofs.declared_calls.empty_queues.Given as goal

abbrev pub invariant-loop-queue : goal.invariant-loop-queue
invariant-loop-queue l = l.queues.items ≡ replicate {A = List ℕ} l._queue []
