use Rattle.std.proofs.Common.{◌≡◌, ◌++◌, drop}
use Rattle.machine.specs.LogonMoves.{without_maker}
use Rattle.plain_rows.proofs.logons.without_maker.Given as goal

abbrev pub invariant-loop-logon : goal.invariant-loop-logon
invariant-loop-logon l = l.rest.items ++ without_maker l.thread (drop l.logon-index l.logons) ≡ without_maker l.thread l.logons
