use Rattle.std.proofs.Common.{◌≡◌, ◌++◌, drop, map}
use Rattle.machine.specs.LogonMoves.{without_maker}
use Rattle.plain_rows.proofs.logons.without_maker_each.Given as goal

abbrev pub invariant-loop-logons : goal.invariant-loop-logons
invariant-loop-logons l = l.rest.items ++ map (without_maker l.thread) (drop l.logons-index l.lists) ≡ map (without_maker l.thread) l.lists
