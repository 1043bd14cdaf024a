-- Of a number without an object nothing is left, after every history.
use Rattle.std.proofs.Common.{Bool, List, [], ◌∷◌}
use Rattle.std.specs.Prelude.{◌&&◌}
use Rattle.script_types.specs.declared.script.Script.{Script}
use Rattle.script_types.specs.Shape.{IsShaped}
use Rattle.script_types.specs.Source.{IsWellFormed}
use Rattle.script_types.proofs.ShapeLaws.{formed_is_shaped}
use Rattle.entry_log.specs.declared.entry.Entry.{Entry}
use Rattle.state_rows.specs.ServerRows.{server_at}
use Rattle.machine.specs.declared.state.State.{State}
use Rattle.machine.specs.Boot.{boot_in}
use Rattle.machine.specs.History.{after_from, after_in, choosing, is_deathless, next_by}
use Rattle.machine.specs.WellFormed.{AreRows}
use Rattle.move_laws.proofs.Lists.Mapped.{none_of}
use Rattle.move_laws.proofs.Lives.Fresh.{none_left}
use Rattle.machine_laws.proofs.AtBoot.BootRows.{rows-boot}
use Rattle.machine_laws.proofs.Reached.AfterHistory.{well_formed-after}
use Rattle.machine_safe.specs.Laws.{LeavesNothing}
use Rattle.machine_safe.proofs.Done.{rows-by, rows-choosing}
use Rattle.machine_safe.proofs.Serving.NothingLacking.{IsSteady, steady-boot, steady-keeping, steady-next}

-- nothing is lacking after any entries
steady-after_from : (script : Script) (S : State) (es : List Entry) → IsShaped script → AreRows script S
    → IsSteady script S → IsSteady script (after_from script S es)
steady-after_from script S [] shaped rows s = s
steady-after_from script S (e ∷ es) shaped rows s =
    steady-after_from script (next_by script S e) es shaped (rows-by script S e shaped rows)
    (steady-next script (choosing e S) shaped (rows-choosing script S e rows)
    (steady-keeping script S (S.mode.shared && is_deathless e.effects) s) e.actor)

pub steady-after : (shared : Bool) (script : Script) (history : List Entry) → IsWellFormed script → IsSteady script (after_in shared script history)
steady-after shared script history valid =
    let shaped = formed_is_shaped script valid in
    steady-after_from script (boot_in shared script) history shaped (rows-boot shared script valid) (steady-boot shared script shaped)

pub leaves_nothing : (shared : Bool) (script : Script) (history : List Entry) → IsWellFormed script → LeavesNothing shared script history
leaves_nothing shared script history valid o none =
    let S = after_in shared script history in
    record {
      fresh = none_left script S o (well_formed-after shared script history valid).rows none;
      server = none_of (server_at S.serving.servers o) ((steady-after shared script history valid).kinds.unmade o none);
    }
