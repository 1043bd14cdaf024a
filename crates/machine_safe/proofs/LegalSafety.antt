-- Every legal history of a well-formed script is safe.
use Rattle.std.specs.Prelude.{Bool, List}
use Rattle.script_types.specs.declared.script.Script.{Script}
use Rattle.script_types.specs.Source.{IsWellFormed}
use Rattle.entry_log.specs.declared.entry.Entry.{Entry}
use Rattle.machine.specs.History.{IsLegalIn}
use Rattle.machine_safe.specs.Safe.{IsSafeIn}
use Rattle.machine_safe.proofs.LegalDeaths.{legal_deaths}
use Rattle.machine_safe.proofs.LegalServing.{legal_busy, legal_messages, legal_servers}
use Rattle.machine_safe.proofs.LegalReferences.{legal_references}
use Rattle.machine_safe.proofs.LegalWaits.{legal_waits}
use Rattle.machine_safe.proofs.LegalWeights.{legal_weights}

pub legal_safety : (shared : Bool) (script : Script) (history : List Entry) → IsWellFormed script
    → IsLegalIn shared script history → IsSafeIn shared script history
legal_safety shared script history valid legal = record {
  references = legal_references shared script history valid legal;
  deaths = legal_deaths shared script history valid legal;
  messages = legal_messages shared script history valid legal;
  servers = legal_servers shared script history valid legal;
  busy = legal_busy shared script history valid legal;
  waits = legal_waits shared script history valid legal;
  weights = legal_weights shared script history valid legal;
}
