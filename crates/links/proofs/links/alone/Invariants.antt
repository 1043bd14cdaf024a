use Rattle.std.proofs.Common.{◌≡◌, ◌<◌, ◌≤◌, ℕ, length, get_or}
use Rattle.std.specs.Prelude.{vec_capacity}
use Rattle.links.proofs.links.alone.Given as goal

abbrev pub invariant-loop-entry : goal.invariant-loop-entry
invariant-loop-entry l = record {
  sized : length l.made.items ≡ l.entry;
  room : l.entries ≤ vec_capacity l.made;
  own : (k : ℕ) → k < l.entry → get_or l.made.items k 0 ≡ k;
}
