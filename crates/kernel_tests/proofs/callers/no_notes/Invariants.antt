use Rattle.std.proofs.Common.{◌≡◌, ℕ, get_or, None}
use Rattle.kernel_tests.proofs.callers.no_notes.Given as goal

-- nobody has one yet
abbrev pub invariant-loop-thread : goal.invariant-loop-thread
invariant-loop-thread l = (t : ℕ) → get_or l.notes.items t None ≡ None
