use Rattle.std.proofs.Common.{◌≡◌, drop}
use Rattle.machine.specs.ServerMoves.{all_closing}
use Rattle.plain_servers.proofs.servers.close_all.Given as goal

abbrev pub invariant-loop-server : goal.invariant-loop-server
invariant-loop-server l = all_closing (drop l.server-index l.servers) l.rows ≡ all_closing l.servers l.initial.rows
