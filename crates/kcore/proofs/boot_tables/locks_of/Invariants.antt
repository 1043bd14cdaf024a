use Rattle.kcore.specs.BootTable.{born_rows}
use Rattle.kcore.proofs.BootProcs.{RankedTo}
use Rattle.kcore.proofs.boot_tables.locks_of.Given as goal

abbrev pub invariant-loop-number : goal.invariant-loop-number
invariant-loop-number l = RankedTo l.locks (born_rows l.all) l.number
