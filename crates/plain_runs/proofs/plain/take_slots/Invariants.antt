use Rattle.std.proofs.Common.{◌≡◌, false, length}
use Rattle.plain_runs.proofs.plain.take_slots.Given as goal

-- each slot that is behind has its entry
abbrev pub invariant-loop-slot : goal.invariant-loop-slot
invariant-loop-slot l = record {
  script : l.plain.script ≡ l.fn.plain.script;
  count : length l.plain.history ≡ l.slot-index;
  whole : l.plain.shared ≡ false;
}
