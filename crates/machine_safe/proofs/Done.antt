-- An entry in the state in which it is done: the choice that it tells is made.
use Rattle.std.proofs.Common.{◌≡◌, ℕ}
use Rattle.std.specs.Prelude.{◌&&◌}
use Rattle.script_types.specs.declared.script.Script.{Script}
use Rattle.script_types.specs.Shape.{IsShaped}
use Rattle.entry_log.specs.declared.entry.Entry.{Entry}
use Rattle.machine.specs.declared.state.State.{State}
use Rattle.machine.specs.History.{choosing, entry_by, is_deathless, next_by, CanAct, IsNext}
use Rattle.machine.specs.WellFormed.{AreRows}
use Rattle.machine_laws.proofs.Reached.AfterHistory.{rows-keeping}
use Rattle.machine_laws.proofs.Reached.Modes.{able-keeping}
use Rattle.machine_laws.proofs.Reached.NextState.{sound-next}

-- its actor may act, and it tells what he does
pub record IsDone (script : Script) (S : State) (place : ℕ) (e : Entry) : Type 0 where
  pub able : CanAct script S e.actor
  pub told : e ≡ entry_by script S place e.actor

-- so an entry that may stand at a place is done there, with the choice that it tells
pub done-next : (script : Script) (S : State) (place : ℕ) (e : Entry) → IsNext script S place e → IsDone script (choosing e S) place e
done-next script S place e h = record { able = able-keeping script S (S.mode.shared && is_deathless e.effects) e.actor h.able; told = h.told }

pub rows-choosing : (script : Script) (S : State) (e : Entry) → AreRows script S → AreRows script (choosing e S)
rows-choosing script S e rows = rows-keeping script S (S.mode.shared && is_deathless e.effects) rows

pub rows-by : (script : Script) (S : State) (e : Entry) → IsShaped script → AreRows script S → AreRows script (next_by script S e)
rows-by script S e shaped rows = (sound-next script (choosing e S) e.actor shaped (rows-choosing script S e rows)).rows
