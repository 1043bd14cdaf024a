use Rattle.std.proofs.Common.{length}
use Rattle.std.specs.Prelude.{◌||◌, IsTrue, nat_eq}
use Rattle.plain_runs.proofs.judge.makes_all.Given as goal

-- callers share the plain machine, or it has no entries
abbrev pub invariant-loop-entry : goal.invariant-loop-entry
invariant-loop-entry l = IsTrue (l.plain.shared || nat_eq (length l.plain.history) 0)
