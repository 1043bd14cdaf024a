use Rattle.std.proofs.Common.{◌≡◌}
use Rattle.turn_lock.specs.Waits.{Waits}
use Rattle.turn_lock.proofs.turns.Turns.wait.Given as goal

-- the pass waits with the number that it drew
abbrev pub invariant-loop : goal.invariant-loop
invariant-loop g l = (l.seat.table_id ≡ l.fn.seat.table_id) × Waits l.fn.seat.me l.ticket l.seat.me
