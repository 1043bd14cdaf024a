use Rattle.std.proofs.Common.{◌≡◌, ◌≤◌, ◌++◌}
use Rattle.load_maker.specs.Draws.{state_after}
use Rattle.load_maker.specs.Rounds.{rounds_instrs, rounds_messages}
use Rattle.load_maker.proofs.threads.push_rounds.Given as goal

-- the rounds so far
abbrev pub invariant-loop-place : goal.invariant-loop-place
invariant-loop-place l = record {
  state : l.draws.state ≡ state_after l.fn.draws.state l.place;
  instrs : l.instrs.items ≡ l.fn.instrs.items ++ rounds_instrs l.fn.draws.state l.client l.place;
  messages : l.messages ≡ rounds_messages l.fn.draws.state l.place;
  few : l.messages ≤ l.place;
}
