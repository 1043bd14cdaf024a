use Rattle.std.proofs.Common.{◌≡◌, ◌∷◌}
use Rattle.std.specs.Prelude.{codes}
use Rattle.load_maker.specs.Made.{client_processes}
use Rattle.load_maker.proofs.made.processes.Given as goal

-- the server's process, and those of the clients so far
abbrev pub invariant-loop-client : goal.invariant-loop-client
invariant-loop-client l = l.all.items ≡ record { name = codes "fs" } ∷ client_processes l.client
