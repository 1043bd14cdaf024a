-- How the process tells its status.
use Rattle.std.specs.Prelude.{ℕ, List, Option, Some, None, Result, Ok, Err, codes}
use Rattle.eka2_app.specs.declared.status.Status.{Status}
use Rattle.eka2_app.specs.declared.status.Status.TheVariants as status
use Rattle.history_check.specs.declared.check.Checked.{Checked}
use Rattle.history_check.specs.declared.check.Checked.TheVariants as checked
use Rattle.script_read.specs.declared.fault.RunFault.{RunFault}
use Rattle.script_read.specs.declared.fault.RunFault.TheVariants as fault

-- the number that it ends with
abbrev pub status_number : Status → ℕ
status_number status.Done = 0
status_number status.Usage = 2
status_number status.Refused = 3
status_number status.ReadFault = 4
status_number status.WriteFault = 5
status_number status.NoMemory = 6
status_number status.TooLarge = 7
status_number status.Illegal = 8

-- the words on standard error, where there are any
abbrev pub status_message : Status → Option (List ℕ)
status_message status.Done = None
status_message status.Usage = Some (codes "usage")
status_message status.Refused = Some (codes "refused")
status_message status.ReadFault = Some (codes "read fault")
status_message status.WriteFault = Some (codes "write fault")
status_message status.NoMemory = Some (codes "no memory")
status_message status.TooLarge = Some (codes "too large")
status_message status.Illegal = Some (codes "illegal")

-- the status of a command that did all, or ended with a fault
abbrev pub status_of : Result (Unit {0}) RunFault → Status
status_of (Ok done) = status.Done
status_of (Err (fault.Refused line why)) = status.Refused
status_of (Err fault.ReadFault) = status.ReadFault
status_of (Err fault.WriteFault) = status.WriteFault
status_of (Err fault.NoMemory) = status.NoMemory
status_of (Err fault.TooLarge) = status.TooLarge

-- the status of a check that came to an end, or met a fault
abbrev pub status_of_check : Result Checked RunFault → Status
status_of_check (Ok (checked.Legal entries)) = status.Done
status_of_check (Ok (checked.Illegal line)) = status.Illegal
status_of_check (Ok checked.NoMemory) = status.NoMemory
status_of_check (Err fault) = status_of (Err fault)
