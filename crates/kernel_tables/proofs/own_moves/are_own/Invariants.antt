use Rattle.std.proofs.Common.{drop}
use Rattle.kernel_tables.specs.OwnMoves.{AreOwn}
use Rattle.kernel_tables.proofs.own_moves.are_own.Given as goal

abbrev pub invariant-loop-change : goal.invariant-loop-change
invariant-loop-change l = AreOwn l.thread (drop l.change-index l.moves) → AreOwn l.thread l.moves
