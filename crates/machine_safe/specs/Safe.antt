-- What is promised of every legal history, as one caller makes it or as callers make it who share the kernel: its references are safe, and so are
-- its deaths, its messages, the ends of its servers, its busy answers, its waits, and the weights of doomed threads.
use Rattle.std.specs.Prelude.{Bool, false, List}
use Rattle.script_types.specs.declared.script.Script.{Script}
use Rattle.entry_log.specs.declared.entry.Entry.{Entry}
use Rattle.machine_safe.specs.SafeBusy.{IsSafeBusy}
use Rattle.machine_safe.specs.SafeDeaths.{IsSafeDeaths}
use Rattle.machine_safe.specs.SafeMessages.{IsSafeMessages}
use Rattle.machine_safe.specs.SafeReferences.{IsSafeReferences}
use Rattle.machine_safe.specs.SafeServers.{IsSafeServers}
use Rattle.machine_safe.specs.SafeWaits.{IsSafeWaits}
use Rattle.machine_safe.specs.SafeWeights.{IsSafeWeights}

pub record IsSafeIn (shared : Bool) (script : Script) (history : List Entry) : Type 0 where
  pub references : IsSafeReferences shared script history
  pub deaths : IsSafeDeaths shared script history
  pub messages : IsSafeMessages script history
  pub servers : IsSafeServers history
  pub busy : IsSafeBusy script history
  pub waits : IsSafeWaits history
  pub weights : IsSafeWeights shared script history

abbrev pub IsSafe : Script → List Entry → Type 0
IsSafe script history = IsSafeIn false script history
