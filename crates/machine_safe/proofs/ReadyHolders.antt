-- After each history of a well-formed script the holder of a fast mutex is ready, whoever is chosen may act, and nobody is
-- chosen exactly where nobody could act.
use Rattle.std.proofs.Common.{Bool, List}
use Rattle.script_types.specs.declared.script.Script.{Script}
use Rattle.script_types.specs.Source.{IsWellFormed}
use Rattle.entry_log.specs.declared.entry.Entry.{Entry}
use Rattle.machine.specs.Arrived.{arrived_in}
use Rattle.machine.specs.Choice.{chosen}
use Rattle.machine.specs.History.{after_in, CanAct}
use Rattle.machine_laws.proofs.Reached.AfterHistory.{well_formed-after}
use Rattle.machine_laws.proofs.Reached.Histories.{can_act_chosen}
use Rattle.machine_laws.proofs.Reached.Idleness.{chosen_idle, idle_chosen}
use Rattle.move_laws.proofs.Readiness.ReadyHolders.{holder_ready}
use Rattle.machine_safe.specs.IdleChoice.{IsIdleChoice}
use Rattle.machine_safe.specs.ReadyHolders.{AreHoldersReadyIn}

pub holders_ready : (shared : Bool) (script : Script) (history : List Entry) → IsWellFormed script → AreHoldersReadyIn shared script history
holders_ready shared script history valid f u is =
    holder_ready script (after_in shared script history) f u (well_formed-after shared script history valid).rows is

pub chosen_able : (shared : Bool) (script : Script) (history : List Entry) → IsWellFormed script
    → CanAct script (after_in shared script history)
    (chosen (after_in shared script history) (arrived_in shared script history))
chosen_able shared script history valid =
    can_act_chosen script (after_in shared script history) (arrived_in shared script history)
    (well_formed-after shared script history valid)

pub idle_choice : (shared : Bool) (script : Script) (history : List Entry) → IsWellFormed script → IsIdleChoice shared script history
idle_choice shared script history valid =
    let formed = well_formed-after shared script history valid in
    record {
      idle = chosen_idle script (after_in shared script history) (arrived_in shared script history) formed;
      chosen = idle_chosen script (after_in shared script history) (arrived_in shared script history) formed;
    }
