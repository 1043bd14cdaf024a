-- The tables at boot.
use Rattle.std.specs.Prelude.{◌≡◌, ℕ, ◌+◌, ◌<◌, ◌≤◌, false, List, length, map, replicate, take, Option, Some, None, slice_get, slice_index, slice_index_or}
use Rattle.sym_base.specs.declared.limits.TheConstants.Limits.{BOOT_OBJECTS, DEVICES, HANDLES, OBJECTS}
use Rattle.script_types.specs.declared.script.Script.{Script}
use Rattle.state_rows.specs.DeclaredCalls.{calls_of}
use Rattle.state_rows.specs.HandleSlots.{fresh_slot}
use Rattle.state_rows.specs.LockChanges.{new_rows as lock_rows}
use Rattle.state_rows.specs.declared.locks.LockRows.{LockRows}
use Rattle.state_rows.specs.MessageChanges.{no_messages}
use Rattle.state_rows.specs.RequestChanges.{new_rows as request_rows}
use Rattle.state_rows.specs.ServerChanges.{no_rows}
use Rattle.state_rows.specs.declared.servers.ServerRows.{ServerRows}
use Rattle.machine.specs.Boot.{memory_of_row, nano_of, objects_from, uses_again}
use Rattle.state_rows.specs.declared.thread.ThreadRow.{ThreadRow}
use Rattle.cleanup.specs.Lists.{empty_lists}
use Rattle.procs.specs.ProcsRows.{ProcsRows}
use Rattle.kern_sync.specs.KernelLocks.{KernelLocks}
use Rattle.kernel_tables.specs.declared.tables.Tables.{Tables}
use Rattle.kernel_tables.specs.Noted.{AreRanked}
use Rattle.table_moves.specs.ObjectsView.{ObjectsView}
use Rattle.kernel_tables.specs.StateOf.{slots_of}
use Rattle.state_rows.specs.declared.object.ObjectRow.{ObjectRow}
use Rattle.state_rows.specs.ObjectRows.{is_session, is_taken}
use Rattle.machine.specs.declared.boot.Born.{Born}
use Rattle.machine.specs.Choice.{priority_of_row}
use Rattle.machine.specs.References.{kernel_holds, same, thread_names, total}
use Rattle.state_rows.specs.declared.thread.Stage.TheVariants.{Live}
use Rattle.sym_base.specs.declared.number.ObjNo.{ObjNo}

-- the rows of the threads that stand at boot, none for a process
abbrev pub born_rows : List Born → List (Option ThreadRow)
born_rows all = map (λ b. b.thread) all

-- the number of references to an object at boot: the threads' to their processes, and the kernel's own to each thread
abbrev pub born_count : List Born → ObjNo → ℕ
born_count all o = total (thread_names o) (born_rows all) + kernel_holds (slice_index_or (born_rows all) o.0 None)

-- the priority of a thread at boot, 0 where there is none
abbrev pub born_priority : List Born → ObjNo → ℕ
born_priority all t = priority_of_row (slice_index_or (born_rows all) t.0 None)

-- a thread at boot is live, uses nothing, and refers to its process, which is one of so many objects
pub record IsLinkedIn (objects : ℕ) (row : ThreadRow) : Type 0 where
  pub process : row.process.0 < objects
  pub link : row.link ≡ Some row.process
  pub uses : row.uses ≡ None
  pub live : row.stage ≡ Live

abbrev pub AreLinked : List Born → Type 0
AreLinked all = (k : ℕ) (b : Born) (row : ThreadRow) → slice_get all k ≡ Some b → b.thread ≡ Some row → IsLinkedIn (length all) row

-- how often the thread of a number, where there is one, makes for a reference to an object: to itself, which the kernel holds, and to its process
abbrev pub born_names : ObjNo → Option ThreadRow → ObjNo → ℕ
born_names number None o = 0
born_names number (Some row) o = same number o + same row.process o

-- each object at boot is alive, has a name that none before it has, and has a reference
pub record AreNew (all : List Born) : Type 0 where
  pub named : (k : ℕ) (b : Born) → slice_get all k ≡ Some b → is_session b.object.kind ≡ false
  pub alive : (k : ℕ) (b : Born) → slice_get all k ≡ Some b → b.object.dead ≡ false
  pub names : (k : ℕ) (b : Born) → slice_get all k ≡ Some b → is_taken b.object.kind b.object.name (take k (objects_from 0 all)) ≡ false
  pub counted : (k : ℕ) → k < length all → 0 < born_count all (record { 0 = k })

-- the table of objects once the first n stand in it
pub record FirstStand (all : List Born) (rows : List (Option ObjectRow)) (counts : List ℕ) (n : ℕ) : Type 0 where
  pub rows_are : rows ≡ take n (objects_from 0 all)
  pub counted : (k : ℕ) → k < n → slice_index counts k ≡ born_count all (record { 0 = k })
  pub none : (k : ℕ) → n ≤ k → slice_index counts k ≡ 0

-- nobody owns or waits for anything, of all objects that may be made
unfoldable pub no_locks : LockRows
no_locks = lock_rows OBJECTS

-- no object is a server or a session, of all that may be made
unfoldable pub no_servers : ServerRows
no_servers = no_rows OBJECTS

-- the threads' rows with the memories of processes, and the locks: nobody owns or waits for anything, and each thread has its priority among waiters
pub record AreThreadTables (threads : List (Option ThreadRow)) (p : ProcsRows) (l : KernelLocks) : Type 0 where
  pub procs : p ≡ record { threads = threads; processes = map memory_of_row threads }
  pub locks : l.rows ≡ no_locks
  pub ranks : AreRanked l.priorities threads
  pub ranked : length l.priorities ≡ BOOT_OBJECTS

-- the other tables beside that of objects: nothing is owed, held, owned, queued or asked for, and no message is outstanding; and one caller alone calls the
-- kernel so far
pub record AreEmpty {W N : Type 0} (script : Script) (all : List Born) (tables : Tables W N) : Type 0 where
  pub mode : tables.mode ≡ record { shared = false; keep = false; reuse = uses_again script.version }
  pub handles : slots_of tables.handles ≡ map (λ _. replicate HANDLES fresh_slot) all
  pub cleanup : tables.cleanup ≡ empty_lists (length all) OBJECTS
  pub nano : tables.nano ≡ nano_of script.fast all
  pub deferred : tables.deferred ≡ calls_of script
  pub requests : tables.requests ≡ request_rows (length all) DEVICES
  pub servers : tables.servers ≡ no_servers
  pub messages : tables.messages ≡ no_messages OBJECTS script.pool

-- the tables of what stands at boot, over its objects
pub record AreTables {W N : Type 0} (script : Script) (all : List Born) (made : ObjectsView W) (tables : Tables W N) : Type 0 where
  pub objects : tables.objects ≡ made
  pub threads : AreThreadTables (born_rows all) tables.procs tables.locks
  pub empty : AreEmpty script all tables
