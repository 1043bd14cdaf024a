-- The tables at boot stand for the state at boot, group by group.
use Rattle.std.proofs.Common.{◌≡◌, ℕ, List, [], ◌∷◌, length, map, refl, ap, Option}
use Rattle.sym_base.specs.declared.number.ObjNo.{ObjNo}
use Rattle.script_types.specs.declared.script.Script.{Script}
use Rattle.machine.specs.declared.boot.Born.{Born}
use Rattle.machine.specs.declared.state.State.{State}
use Rattle.machine.specs.declared.mode.Mode.{Mode}
use Rattle.machine.specs.declared.references.References.{References}
use Rattle.machine.specs.declared.synchronization.Synchronization.{Synchronization}
use Rattle.machine.specs.declared.serving.Serving.{Serving}
use Rattle.machine.specs.declared.services.Services.{Services}
use Rattle.machine.specs.Boot.{boot, boot_of, born, memory_of, memory_of_row, objects_from}
use Rattle.machine.specs.Choice.{priority_of}
use Rattle.table_moves.specs.ObjectsView.{ObjectsView}
use Rattle.kernel_tables.specs.declared.tables.Tables.{Tables}
use Rattle.kernel_tables.specs.StateOf.{state_of}
use Rattle.kcore.specs.BootTable.{AreTables, born_priority, no_locks, no_servers}
use Rattle.kcore.proofs.BootUses.{none_listed}

pub threads_at_boot : (script : Script) → (boot script).references.threads ≡ map (λ (b : Born). b.thread) (born script)
unfolding boot_of
threads_at_boot script = refl

pub priorities_at_boot : (script : Script) → priority_of (boot script) ≡ born_priority (born script)
unfolding boot_of
priorities_at_boot script = refl

memories_each : (bs : List Born) → map memory_of_row (map (λ (b : Born). b.thread) bs) ≡ map memory_of bs
memories_each [] = refl
memories_each (b ∷ bs) = ap (λ (l : List (Option (List ℕ))). memory_of b ∷ l) (memories_each bs)

-- a state is its groups
all_groups : (S : State) (m : Mode) (r : References) (s : Synchronization) (v : Serving) (k : Services) → m ≡ S.mode
    → r ≡ S.references → s ≡ S.synchronization → v ≡ S.serving → k ≡ S.services
    → record { mode = m; references = r; synchronization = s; serving = v; services = k } ≡ S
all_groups S m r s v k mode references synchronization serving services = rw (mode, references, synchronization, serving, services) refl

module _ {W N : Type 0} (script : Script) (made : ObjectsView W) (tables : Tables W N) (h : AreTables script (born script) made tables) where
  references_are : made.rows ≡ objects_from 0 (born script) → made.made ≡ length (born script) → (state_of tables).references ≡ (boot script).references
  unfolding boot_of
  references_are rows all = rw (h.objects, rows, all, h.empty.handles, h.threads.procs, h.empty.cleanup, none_listed (born script)) refl

  synchronization_are : (state_of tables).synchronization ≡ (boot script).synchronization
  unfolding boot_of no_locks
  synchronization_are =
      rw (
        h.empty.nano,
        h.empty.deferred,
        h.empty.requests,
        h.threads.locks,
        h.empty.cleanup,
        none_listed {A = ObjNo} (born script),
        none_listed {A = ObjNo × ℕ} (born script),
      ) refl

  serving_are : (state_of tables).serving ≡ (boot script).serving
  unfolding boot_of no_servers
  serving_are = rw (h.empty.servers, h.empty.cleanup, none_listed (born script), h.empty.messages) refl

  services_are : (state_of tables).services ≡ (boot script).services
  unfolding boot_of
  services_are = rw (h.threads.procs, memories_each (born script)) refl

  pub state_is_boot : made.rows ≡ objects_from 0 (born script) → made.made ≡ length (born script) → state_of tables ≡ boot script
  state_is_boot rows all =
      all_groups (boot script) (state_of tables).mode (state_of tables).references (state_of tables).synchronization
      (state_of tables).serving (state_of tables).services h.empty.mode
      (references_are rows all) synchronization_are serving_are services_are
