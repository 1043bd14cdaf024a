use Rattle.std.proofs.Common.{◌≡◌, ◌+◌, ◌++◌, length}
use Rattle.kcore.proofs.schedule_run.ScheduleRun.next_part.Given as goal

-- the entries of the slots that are behind stand in the part, in front of those that are left
abbrev pub invariant-loop-at : goal.invariant-loop-at
invariant-loop-at l = record {
  script : l.self.script ≡ l.fn.self.script;
  size : l.self.size ≡ l.fn.self.size;
  taken : l.self.taken ≡ l.at;
  many : l.fn.self.taken + length l.self.part ≡ l.at;
  history : l.self.history ≡ l.fn.self.history ++ l.self.part;
  left : l.fn.self.left ≡ l.self.part ++ l.self.left;
}
