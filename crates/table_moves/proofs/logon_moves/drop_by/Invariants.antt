use Rattle.std.proofs.Common.{◌≡◌, ◌++◌, map, take, drop}
use Rattle.machine.specs.LogonMoves.{without_maker}
use Rattle.table_moves.proofs.logon_moves.drop_by.Given as goal

abbrev pub invariant-loop-on : goal.invariant-loop-on
invariant-loop-on l =
    l.cleanup ≡ record l.initial.cleanup {
      logons = map (without_maker l.by)
          (take l.on l.initial.cleanup.logons) ++ drop l.on l.initial.cleanup.logons;
    }
