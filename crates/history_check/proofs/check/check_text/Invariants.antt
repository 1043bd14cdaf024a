use Rattle.std.proofs.Common.{◌≡◌, ◌||◌, nat_eq, length}
use Rattle.std.specs.Prelude.{IsTrue}
use Rattle.history_check.proofs.GoodLines.{IsSoFar}
use Rattle.history_check.proofs.check.check_text.Given as goal

-- the text begins with the lines of the history that was made
abbrev pub invariant-loop-entries : goal.invariant-loop-entries
invariant-loop-entries l = record {
  script : l.plain.script ≡ l.fn.fresh.script;
  so : IsSoFar l.fn.fresh.script l.plain.history l.text l.rest;
  count : length l.plain.history ≡ l.entries;
  split : IsTrue (l.plain.shared || nat_eq (length l.plain.history) 0);
}
