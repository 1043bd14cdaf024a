use Rattle.std.proofs.Common.{◌≡◌, ◌+◌, ◌*◌, ◌≤◌, take}
use Rattle.runner.specs.MadeText.{is_accept, is_finish, effects_that}
use Rattle.runner.proofs.summary.with_messages_of.Given as goal

-- the messages of the entries that are behind, of which each has four effects at most, beside those before
abbrev pub invariant-loop-entry : goal.invariant-loop-entry
invariant-loop-entry l = record {
  accepted : l.messages.accepted ≡ l.fn.before.accepted + effects_that is_accept (take l.entry-index l.entries);
  finished : l.messages.finished ≡ l.fn.before.finished + effects_that is_finish (take l.entry-index l.entries);
  few_accepted : l.messages.accepted ≤ l.fn.before.accepted + 4 * l.entry-index;
  few_finished : l.messages.finished ≤ l.fn.before.finished + 4 * l.entry-index;
}
