use Rattle.std.proofs.Common.{◌≡◌, ◌+◌, ◌≤◌, take}
use Rattle.std.specs.List.{count_by}
use Rattle.runner.specs.MadeText.{is_accept, is_finish}
use Rattle.runner.proofs.summary.with_messages_by.Given as goal

-- the messages of the effects that are behind, beside those before
abbrev pub invariant-loop-effect : goal.invariant-loop-effect
invariant-loop-effect l = record {
  accepted : l.accepted ≡ l.fn.before.accepted + count_by is_accept (take l.effect-index l.effects);
  finished : l.finished ≡ l.fn.before.finished + count_by is_finish (take l.effect-index l.effects);
  few_accepted : l.accepted ≤ l.fn.before.accepted + l.effect-index;
  few_finished : l.finished ≤ l.fn.before.finished + l.effect-index;
}
