use Rattle.std.proofs.Common.{◌≡◌, length}
use Rattle.machine.proofs.ThreadSpans.{AreSpans}
use Rattle.machine.proofs.spans.spans_of.Given as goal

abbrev pub invariant-loop-k : goal.invariant-loop-k
invariant-loop-k l = record {
  count : length l.spans ≡ 16;
  spans : AreSpans l.script.threads l.k l.spans;
}
