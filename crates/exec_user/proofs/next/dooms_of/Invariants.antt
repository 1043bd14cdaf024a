use Rattle.std.proofs.Common.{◌≡◌, drop}
use Rattle.exec_user.specs.Phases.{dooms_of}
use Rattle.exec_user.proofs.next.dooms_of.Given as goal

abbrev pub invariant-loop-index : goal.invariant-loop-index
invariant-loop-index l = dooms_of (drop l.index l.moves) ≡ dooms_of l.moves
