-- The holder of a fast mutex can act.
use Rattle.std.specs.Prelude.{◌≡◌, ℕ, Bool, true, false, List, Some}
use Rattle.sym_base.specs.declared.number.ObjNo.{ObjNo}
use Rattle.script_types.specs.declared.script.Script.{Script}
use Rattle.entry_log.specs.declared.entry.Entry.{Entry}
use Rattle.state_rows.specs.Nano.{holder_of}
use Rattle.machine.specs.History.{after_in}
use Rattle.machine.specs.Task.{is_ready}

-- after a history, whoever holds a fast mutex is ready
abbrev pub AreHoldersReadyIn : Bool → Script → List Entry → Type 0
AreHoldersReadyIn shared script history =
    (f : ℕ) (u : ObjNo) → holder_of (after_in shared script history).synchronization.nano f ≡ Some u
    → is_ready script (after_in shared script history) u ≡ true

abbrev pub AreHoldersReady : Script → List Entry → Type 0
AreHoldersReady script history = AreHoldersReadyIn false script history
