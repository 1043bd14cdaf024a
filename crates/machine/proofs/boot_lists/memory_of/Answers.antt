use Rattle.std.proofs.Common.{ap, sym, ◌∙◌, Some}
use Rattle.machine.specs.Boot.{memory_of_row}
use Rattle.machine.proofs.boot_lists.memory_of.Goals as goal

pub returns-in_ok-zero_bytes-in-None : goal.returns-in_ok-zero_bytes-in-None
returns-in_ok-zero_bytes-in-None c = ap Some c.in_ok-zero_bytes-in-None.ensures ∙ ap memory_of_row (sym c.in-None.is)
