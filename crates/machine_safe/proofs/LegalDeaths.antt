-- In every legal history of a well-formed script threads die safely.
use Rattle.std.proofs.Common.{Bool, List}
use Rattle.script_types.specs.declared.script.Script.{Script}
use Rattle.script_types.specs.Source.{IsWellFormed}
use Rattle.entry_log.specs.declared.entry.Entry.{Entry}
use Rattle.machine.specs.History.{IsLegalIn}
use Rattle.machine_safe.specs.SafeDeaths.{IsSafeDeaths}
use Rattle.machine_safe.proofs.Deaths.AfterCleaning.{stays-dead}
use Rattle.machine_safe.proofs.Deaths.AfterDoom.{doom-ends}
use Rattle.machine_safe.proofs.Deaths.InOrder.{dies-in-order}
use Rattle.machine_safe.proofs.Deaths.LeftAtCleaning.{clean-leaves}

pub legal_deaths : (shared : Bool) (script : Script) (history : List Entry) → IsWellFormed script
    → IsLegalIn shared script history → IsSafeDeaths shared script history
legal_deaths shared script history valid legal = record {
  order = λ t. dies-in-order shared script history t valid legal;
  doom = λ t. doom-ends shared script history t valid legal;
  clean = λ t. clean-leaves shared script history t valid legal;
  dead = λ t. stays-dead shared script history t valid legal;
}
