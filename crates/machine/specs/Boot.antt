-- The state at boot. Object 0 is process `kernel`, object 1 thread `supervisor`, and then each process
-- comes with its threads behind it, in the script's order; the kernel threads, which belong to process `kernel`, stand
-- before the first of these, and before them the threads of queues, which belong to it too.
use Rattle.std.specs.Prelude.{ℕ, ◌+◌, ◌==◌, nat_lt, not, Bool, true, false, if◌then◌else◌, codes, map, List, [], ◌∷◌, ◌++◌, length, Option, Some, None, replicate}
use Rattle.sym_base.specs.declared.kind.Kind.{Kind}
use Rattle.sym_base.specs.declared.kind.Kind.TheVariants.{Process, Thread}
use Rattle.script_types.specs.declared.script.Script.{Script}
use Rattle.script_types.specs.declared.declaration.ThreadDecl.{ThreadDecl}
use Rattle.script_types.specs.declared.declaration.QueueDecl.{QueueDecl}
use Rattle.script_types.specs.declared.declaration.ProcessDecl.{ProcessDecl}
use Rattle.state_rows.specs.declared.object.ObjectRow.{ObjectRow}
use Rattle.sym_base.specs.declared.number.ObjNo.{ObjNo}
use Rattle.sym_base.specs.declared.limits.TheConstants.Limits.{HANDLES, DEVICES, OBJECTS}
use Rattle.state_rows.specs.declared.nano.NanoRows.{NanoRows}
use Rattle.state_rows.specs.NanoChanges.{new_rows}
use Rattle.state_rows.specs.DeclaredCalls.{calls_of}
use Rattle.state_rows.specs.RequestChanges.{new_rows as request_rows}
use Rattle.state_rows.specs.declared.deferred.DeferredRows.{DeferredRows}
use Rattle.state_rows.specs.LockChanges.{new_rows as lock_rows}
use Rattle.state_rows.specs.ServerChanges.{no_rows}
use Rattle.state_rows.specs.MessageChanges.{no_messages}
use Rattle.state_rows.specs.ThreadRows.{new_thread as added_thread}
use Rattle.state_rows.specs.declared.thread.Role.{Role}
use Rattle.state_rows.specs.declared.thread.Role.TheVariants.{Supervisor, Queue, Declared}
use Rattle.state_rows.specs.declared.thread.ThreadRow.{ThreadRow}
use Rattle.machine.specs.declared.state.State.{State}
use Rattle.machine.specs.declared.boot.Born.{Born}
use Rattle.state_rows.specs.HandleSlots.{fresh_slot}

-- an object that stands at boot; its place is its number (`objects_from`)
abbrev pub boot_object : Kind → List ℕ → ObjectRow
boot_object kind name = record { kind = kind; name = name; dead = false; place = 0 }

-- a process
abbrev pub born_process : List ℕ → Born
born_process name = record { object = boot_object Process name; thread = None; works = false; held = false }

-- a thread in the process of object number p
abbrev pub new_thread : ℕ → Role → ℕ → ThreadRow
new_thread p role priority = record (added_thread (record { 0 = p })) { role = role; link = Some (record { 0 = p }); priority = priority }

-- the thread of declaration k
abbrev pub born_thread : ℕ → ℕ → ThreadDecl → Born
born_thread p k d = record { object = boot_object Thread d.name; thread = Some (new_thread p (Declared k) d.priority); works = not d.held; held = d.held }

-- the threads of the queues from number q on
abbrev pub born_queue : ℕ → QueueDecl → Born
born_queue q d = record { object = boot_object Thread d.name; thread = Some (new_thread 0 (Queue q) d.priority); works = false; held = false }

abbrev pub born_queues : ℕ → List QueueDecl → List Born
born_queues q [] = []
born_queues q (d ∷ ds) = born_queue q d ∷ born_queues (q + 1) ds

-- whether a declared thread is of the j-th process, and whether it is a kernel thread
abbrev pub is_of : Option ℕ → Option ℕ → Bool
is_of (Some j) (Some i) = i == j
is_of None None = true
is_of _ _ = false

-- the threads of the j-th process, or the kernel threads, whose process has object number p; k counts the declarations
abbrev pub born_threads : Option ℕ → ℕ → ℕ → List ThreadDecl → List Born
born_threads j p k [] = []
born_threads j p k (d ∷ ds) = if is_of j d.process then born_thread p k d ∷ born_threads j p (k + 1) ds else born_threads j p (k + 1) ds

-- the processes from the j-th on, each with its threads; p is the object number of the j-th
abbrev pub born_processes : List ThreadDecl → ℕ → ℕ → List ProcessDecl → List Born
born_processes threads j p [] = []
born_processes threads j p (d ∷ ds) =
    born_process d.name ∷ born_threads (Some j) p 0 threads ++ born_processes threads (j + 1) (p + 1 + length (born_threads (Some j) p 0 threads)) ds

-- the supervisor
abbrev pub born_supervisor : Born
born_supervisor = record { object = boot_object Thread (codes "supervisor"); thread = Some (new_thread 0 Supervisor 48); works = false; held = false }

-- process `kernel` with its threads: the supervisor, the threads of queues, and the kernel threads
abbrev pub born_kernel : Script → List Born
born_kernel script =
    born_process (codes "kernel")
    ∷ born_supervisor
    ∷ born_queues 1 script.queues ++ born_threads None 0 0 script.threads

-- all that stands at boot, in order of number
abbrev pub born : Script → List Born
born script = born_kernel script ++ born_processes script.threads 0 (length (born_kernel script)) script.processes

-- the objects of all that stands at boot, from a number on, each with its number as its place
abbrev pub objects_from : ℕ → List Born → List (Option ObjectRow)
objects_from n [] = []
objects_from n (b ∷ bs) = Some (record b.object { place = n }) ∷ objects_from (n + 1) bs

-- the threads that are declared and aren't held are ready, in order of number
abbrev pub ready_from : ℕ → List Born → List ObjNo
ready_from n [] = []
ready_from n (b ∷ bs) = if b.works then record { 0 = n } ∷ ready_from (n + 1) bs else ready_from (n + 1) bs

-- a thread that is declared as held is suspended once
abbrev pub held_count : Born → ℕ
held_count b = if b.held then 1 else 0

-- nobody has a signal, is in a critical section, or wants or holds a fast mutex
abbrev pub nano_of : ℕ → List Born → NanoRows
nano_of fast bs = record (new_rows (length bs) fast) { suspensions = map held_count bs }

-- a process has 1,024 zero bytes
abbrev pub memory_of_row : Option ThreadRow → Option (List ℕ)
memory_of_row None = Some (replicate 1024 0)
memory_of_row (Some row) = None

abbrev pub memory_of : Born → Option (List ℕ)
memory_of b = memory_of_row b.thread

-- each has an empty table and owes and holds nothing, no device has a request, nobody waits for a lock, and there is no server and no
-- message
unfoldable pub boot_of : Bool → ℕ → ℕ → DeferredRows → List Born → State
boot_of reuse pool fast calls bs = record {
  mode = record { shared = false; keep = false; reuse = reuse };
  references = record {
    objects = objects_from 0 bs;
    made = length bs;
    handles = map (λ _. replicate HANDLES fresh_slot) bs;
    threads = map (λ b. b.thread) bs;
    owed = map (λ _. []) bs;
  };
  synchronization = record {
    nano = nano_of fast bs;
    deferred = calls;
    requests = request_rows (length bs) DEVICES;
    locks = lock_rows OBJECTS;
    mutexes = map (λ _. []) bs;
    logons = map (λ _. []) bs;
  };
  serving = record {
    servers = no_rows OBJECTS;
    owned = map (λ _. []) bs;
    messages = no_messages OBJECTS pool;
  };
  services = record {
    memories = map memory_of bs;
  };
}

-- whether the kernel of a script of a version uses the numbers of swept objects again: from version 2 on
abbrev pub uses_again : ℕ → Bool
uses_again version = nat_lt 1 version

-- the state at boot, where callers share the kernel or don't
abbrev pub boot_in : Bool → Script → State
boot_in shared script = record (boot_of (uses_again script.version) script.pool script.fast (calls_of script) (born script)) {
  mode = record { shared = shared; keep = false; reuse = uses_again script.version };
}

abbrev pub boot : Script → State
boot script = boot_in false script

-- the ready list at boot
abbrev pub ready_at_boot : Script → List ObjNo
ready_at_boot script = ready_from 0 (born script)
