use Rattle.std.proofs.Common.{◌≡◌, ◌++◌, drop}
use Rattle.machine.specs.LogonMoves.{without_logon}
use Rattle.plain_rows.proofs.logons.without_logon.Given as goal

abbrev pub invariant-loop-logon : goal.invariant-loop-logon
invariant-loop-logon l = l.rest.items ++ without_logon l.thread l.status (drop l.logon-index l.logons) ≡ without_logon l.thread l.status l.logons
