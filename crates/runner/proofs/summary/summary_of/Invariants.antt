use Rattle.std.proofs.Common.{◌≡◌, ◌*◌, ◌≤◌, ◌++◌, length}
use Rattle.machine.specs.Run.{run}
use Rattle.runner.specs.MadeText.{is_accept, is_finish, effects_that}
use Rattle.runner.proofs.summary.summary_of.Given as goal

-- the entries of the slots that are taken, and their messages, of which each entry has four at most
abbrev pub invariant-loop-part : goal.invariant-loop-part
invariant-loop-part l = record {
  script : l.schedule.script ≡ l.fn.schedule.script;
  size : l.schedule.size ≡ l.fn.schedule.size;
  whole : l.schedule.history ++ l.schedule.left ≡ run l.fn.schedule.script;
  entries : l.entries ≡ length l.schedule.history;
  accepted : l.messages.accepted ≡ effects_that is_accept l.schedule.history;
  finished : l.messages.finished ≡ effects_that is_finish l.schedule.history;
  few_accepted : l.messages.accepted ≤ 4 * l.entries;
  few_finished : l.messages.finished ≤ 4 * l.entries;
}

-- each turn leaves fewer slots
abbrev pub decreases-loop-part : goal.decreases-loop-part
decreases-loop-part l = length l.schedule.left
