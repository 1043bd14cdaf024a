-- Every state that a history leaves is well-formed, with its ready list.
use Rattle.std.proofs.Common.{Bool, List, [], ◌∷◌}
use Rattle.std.specs.Prelude.{◌&&◌}
use Rattle.sym_base.specs.declared.number.ObjNo.{ObjNo}
use Rattle.script_types.specs.declared.script.Script.{Script}
use Rattle.script_types.specs.Shape.{IsShaped}
use Rattle.script_types.specs.Source.{IsWellFormed as IsWellFormedScript}
use Rattle.script_types.proofs.ShapeLaws.{formed_is_shaped}
use Rattle.entry_log.specs.declared.entry.Entry.{Entry}
use Rattle.machine.specs.declared.state.State.{State}
use Rattle.machine.specs.Arrived.{arrived_by_entry, arrived_from, arrived_in}
use Rattle.machine.specs.Boot.{boot_in, ready_at_boot}
use Rattle.machine.specs.History.{after_from, after_in, choosing, is_deathless, keeping, next_by}
use Rattle.machine.specs.WellFormed.{AreRows, IsWellFormed}
use Rattle.machine_laws.proofs.AtBoot.BootRows.{well_formed-boot}
use Rattle.machine_laws.proofs.Reached.NextState.{well_formed-next}

-- the choice of what is kept is read by no condition on the rows
pub rows-keeping : (script : Script) (S : State) (keep : Bool) → AreRows script S → AreRows script (keeping keep S)
rows-keeping script S keep h = record {
  references = h.references;
  synchronization = h.synchronization;
  serving = h.serving;
  services = h.services;
  lives = record { alive = h.lives.alive; counted = h.lives.counted; sweeps = h.lives.sweeps };
}

pub well_formed-keeping : (script : Script) (S : State) (qs : List ObjNo) (keep : Bool) → IsWellFormed script S qs → IsWellFormed script (keeping keep S) qs
well_formed-keeping script S qs keep h = record { rows = rows-keeping script S keep h.rows; ready = record { exact = h.ready.exact; once = h.ready.once } }

pub well_formed-by : (script : Script) (S : State) (qs : List ObjNo) (e : Entry) → IsShaped script
    → IsWellFormed script S qs → IsWellFormed script (next_by script S e) (arrived_by_entry script S e qs)
well_formed-by script S qs e shaped h =
    well_formed-next script (choosing e S) e.actor qs shaped
    (well_formed-keeping script S qs (S.mode.shared && is_deathless e.effects) h)

pub well_formed-after_from : (script : Script) (S : State) (qs : List ObjNo) (es : List Entry) → IsShaped script
    → IsWellFormed script S qs → IsWellFormed script (after_from script S es) (arrived_from script S qs es)
well_formed-after_from script S qs [] shaped h = h
well_formed-after_from script S qs (e ∷ es) shaped h =
    well_formed-after_from script (next_by script S e) (arrived_by_entry script S e qs) es shaped
    (well_formed-by script S qs e shaped h)

pub well_formed-after : (shared : Bool) (script : Script) (history : List Entry) → IsWellFormedScript script
    → IsWellFormed script (after_in shared script history) (arrived_in shared script history)
well_formed-after shared script history valid =
    well_formed-after_from script (boot_in shared script) (ready_at_boot script) history (formed_is_shaped script valid)
    (well_formed-boot shared script valid)
