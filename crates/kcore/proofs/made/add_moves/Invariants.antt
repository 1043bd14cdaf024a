use Rattle.std.proofs.Common.{◌≡◌, ◌++◌, take}
use Rattle.kcore.proofs.made.add_moves.Given as goal

abbrev pub invariant-loop-change : goal.invariant-loop-change
invariant-loop-change l = l.made ≡ l.initial.made ++ take l.change-index l.moves
