-- What one piece of a copy leaves of the rows of threads and processes.
use Rattle.procs.specs.ProcsRows.{ProcsRows}
use Rattle.copy_rules.specs.declared.ends.Ends.{Ends}
use Rattle.copy_rules.specs.declared.job.Job.{Job}
use Rattle.copy_rules.specs.Pieces.{memories_after_read, memories_after_write}

-- after a piece of a read, and after one of a write
abbrev pub after_read : ProcsRows → Ends → Job → ProcsRows
after_read procs ends job = record procs { processes = memories_after_read procs.processes ends job }

abbrev pub after_write : ProcsRows → Ends → Job → ProcsRows
after_write procs ends job = record procs { processes = memories_after_write procs.processes ends job }
