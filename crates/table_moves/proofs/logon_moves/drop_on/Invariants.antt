use Rattle.std.proofs.Common.{◌≡◌}
use Rattle.std.specs.Prelude.{slice_set}
use Rattle.machine.specs.LogonMoves.{logons_on}
use Rattle.table_moves.proofs.GoneLogons.{without_below}
use Rattle.table_moves.proofs.logon_moves.drop_on.Given as goal

abbrev pub invariant-loop-status : goal.invariant-loop-status
invariant-loop-status l =
    l.cleanup ≡ record l.initial.cleanup {
      logons = slice_set l.initial.cleanup.logons l.on.0
          (without_below l.by l.status (logons_on l.initial.cleanup.logons l.on));
    }
