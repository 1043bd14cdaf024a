use Rattle.std.proofs.Common.{◌≡◌}
use Rattle.machine.specs.Boot.{memory_of_row}
use Rattle.kcore.specs.BootTable.{born_rows}
use Rattle.kcore.proofs.BootProcs.{made_so_far}
use Rattle.kcore.proofs.boot_tables.procs_of.Given as goal

abbrev pub invariant-loop-number : goal.invariant-loop-number
invariant-loop-number l =
    l.procs ≡ record {
      threads = made_so_far (λ x. x) (born_rows l.all) l.number;
      processes = made_so_far memory_of_row (born_rows l.all) l.number;
    }
