-- What holds of every state that a legal history leaves: a predicate for each part of the state.
use Rattle.std.specs.Prelude.{◌≡◌, ℕ, ◌+◌, ◌<◌, ◌≤◌, Bool, true, false, if◌then◌else◌, List, [], ◌∷◌, length, Option, Some, None, is_some}
use Rattle.std.specs.List.{slice_index_or, AllByRecursion}
use Rattle.sym_base.specs.declared.limits.TheConstants.Limits.{OBJECTS, BOOT_OBJECTS, DEVICES}
use Rattle.sym_base.specs.declared.number.ObjNo.{ObjNo}
use Rattle.script_types.specs.declared.script.Script.{Script}
use Rattle.entry_log.specs.declared.effect.Holder.{Holder}
use Rattle.entry_log.specs.declared.effect.Holder.TheVariants.{Temp, Own, Link, Kernel, Message as OfMessage}
use Rattle.entry_log.specs.declared.step.Part.{Part}
use Rattle.entry_log.specs.declared.step.Part.TheVariants as part
use Rattle.state_rows.specs.declared.duty.Owed.{Owed}
use Rattle.state_rows.specs.declared.duty.Owed.TheVariants.{Close, Sweep}
use Rattle.state_rows.specs.declared.object.ObjectRow.{ObjectRow}
use Rattle.state_rows.specs.declared.deferred.DeferredRows.{DeferredRows}
use Rattle.state_rows.specs.declared.nano.NanoRows.{NanoRows}
use Rattle.state_rows.specs.Deferred.{IsKnown}
use Rattle.state_rows.specs.declared.requests.Request.{Request}
use Rattle.state_rows.specs.declared.requests.RequestRows.{RequestRows}
use Rattle.state_rows.specs.Requests.{request_at, is_pending}
use Rattle.state_rows.specs.RequestSound.{AreRequestRows}
use Rattle.state_rows.specs.Nano.{want_of, holder_of}
use Rattle.state_rows.specs.NanoSound.{AreNanoRows}
use Rattle.state_rows.specs.declared.thread.Role.{Role}
use Rattle.state_rows.specs.declared.thread.Role.TheVariants.{Supervisor, Queue, Declared}
use Rattle.state_rows.specs.declared.thread.Stage.{Stage}
use Rattle.state_rows.specs.declared.thread.Stage.TheVariants.{Live, Cleaned, Buried}
use Rattle.state_rows.specs.declared.thread.Waiting.TheVariants as waiting
use Rattle.state_rows.specs.declared.handle_slot.HandleSlot.{HandleSlot}
use Rattle.state_rows.specs.declared.thread.ThreadRow.{ThreadRow}
use Rattle.state_rows.specs.declared.servers.ServerRows.{ServerRows}
use Rattle.machine.specs.declared.state.State.{State}
use Rattle.machine.specs.declared.references.References.{References}
use Rattle.machine.specs.declared.synchronization.Synchronization.{Synchronization}
use Rattle.machine.specs.declared.serving.Serving.{Serving}
use Rattle.machine.specs.declared.services.Services.{Services}
use Rattle.machine.specs.Serving.{IsUnlinked, AreServers, AreMessages}
use Rattle.machine.specs.Rows.{object_of}
use Rattle.state_rows.specs.HandleSlots.{IsTable, slot_at}
use Rattle.state_rows.specs.declared.locks.Owner.{Owner}
use Rattle.state_rows.specs.declared.locks.LockRows.{LockRows}
use Rattle.state_rows.specs.Locks.{owner_at, count_at, waiters_at, is_among}
use Rattle.machine.specs.References.{total, same, mutex_names, count_of}
use Rattle.machine.specs.HeldIn.{owed_by}
use Rattle.machine.specs.Task.{instructions_of, served_queue, is_ready}
use Rattle.machine.specs.Out.{is_returning, outs_of, part_of, seeks}
use Rattle.machine.specs.LogonMoves.{is_logon}
use Rattle.machine.specs.Arrivals.{is_listed}
use Rattle.state_rows.specs.DeclaredCalls.{calls_of}

-- processes and threads, the supervisor among them, had the least numbers at boot, and have a handle table and a list of duties each
pub record AreSized (r : References) : Type 0 where
  pub tables : length r.handles ≡ length r.threads
  pub duties : length r.owed ≡ length r.threads
  pub first : length r.threads ≤ length r.objects
  pub supervised : 2 ≤ length r.threads
  pub threads_few : length r.threads ≤ BOOT_OBJECTS
  pub objects_few : length r.objects ≤ OBJECTS

-- Places: that of each object is one of the makings so far, and no other object has it; whoever comes back from a find found an object that was made,
-- and where an object of its place is there, that has the number which it found; and where no number is used again, each making gave the next number.
pub record ArePlaces (reuse : Bool) (r : References) : Type 0 where
  pub below : (k : ℕ) (row : ObjectRow) → slice_index_or r.objects k None ≡ Some row → row.place < r.made
  pub apart : (j k : ℕ) (one other : ObjectRow) → slice_index_or r.objects j None ≡ Some one → slice_index_or r.objects k None ≡ Some other
      → one.place ≡ other.place → j ≡ k
  pub sought : (o : ObjNo) (place : ℕ) → 0 < total (seeks o place) r.threads → place < r.made
  pub found : (o : ObjNo) (k : ℕ) (row : ObjectRow) → slice_index_or r.objects k None ≡ Some row → 0 < total (seeks o row.place) r.threads → k ≡ o.0
  pub makings : reuse ≡ false → r.made ≡ length r.objects
  pub numbers : reuse ≡ false → (k : ℕ) (row : ObjectRow) → slice_index_or r.objects k None ≡ Some row → row.place ≡ k

-- each handle table is one
abbrev pub AreTables : List (List HandleSlot) → Type 0
AreTables tables = (k : ℕ) → k < length tables → IsTable (slice_index_or tables k [])

-- whether a step is one before the thread uses anything: its first, or the return
abbrev pub is_before_use : Option Part → Bool
is_before_use None = true
is_before_use (Some part.Return) = true
is_before_use _ = false

-- whether a script declares the thread of a role: the supervisor's it has always, and its queues have numbers from 1 on
abbrev pub IsRole : Script → Role → Type 0
IsRole script Supervisor = Unit {0}
IsRole script (Queue queue) = queue ≤ length script.queues
IsRole script (Declared k) = k < length script.threads

-- A thread's row: its process is one of so many, and is what it is linked to; the script declares it; its next
-- instruction is in its list or at the list's end, and in the list where it comes back from a find; and it uses nothing
-- before its look or its return.
pub record IsThread (script : Script) (count : ℕ) (row : ThreadRow) : Type 0 where
  pub process : row.process.0 < count
  pub link : (p : ObjNo) → row.link ≡ Some p → p.0 ≡ row.process.0
  pub priority : row.priority ≤ 63
  pub next_instruction : row.next_instruction ≤ length (instructions_of script row.role)
  pub unused : is_before_use row.part ≡ true → row.uses ≡ None
  pub registers : length row.registers ≡ 8
  pub declared : IsRole script row.role
  pub returns : is_returning row.part ≡ true → row.next_instruction < length (instructions_of script row.role)

-- each thread's row is one, no process is a thread, and who serves a queue has the number of its thread
pub record AreThreads (script : Script) (threads : List (Option ThreadRow)) : Type 0 where
  pub rows : (k : ℕ) (row : ThreadRow) → slice_index_or threads k None ≡ Some row → IsThread script (length threads) row
  pub processes : (k : ℕ) (row : ThreadRow) → slice_index_or threads k None ≡ Some row → slice_index_or threads row.process.0 None ≡ None
  pub servers : (k queue : ℕ) (row : ThreadRow) → slice_index_or threads k None ≡ Some row → served_queue row.role ≡ Some queue → k ≡ 1 + queue

-- what a duty weighs: each duty done leaves less, since a close may owe the close of a link and a sweep, and the
-- close of a link a sweep
abbrev pub weight : Owed → ℕ
weight (Close (Link x) o) = 2
weight (Close _ o) = 4
weight (Sweep o) = 1

-- 1 for the owed sweep of an object
abbrev pub owed_sweeps : ObjNo → Owed → ℕ
owed_sweeps o (Close holder x) = 0
owed_sweeps o (Sweep x) = same x o

-- whose closes a thread may owe, and what it owes behind each: its own temporary reference's and ownership's; the link's of an object whose sweep it
-- owes later, to what has no link itself; that of a message which was accepted; and the kernel's
abbrev pub MayOwe : List (Option ThreadRow) → ServerRows → ℕ → ℕ → Holder → ObjNo → List Owed → Type 0
MayOwe threads servers accepted k (Temp u) o later = u.0 ≡ k
MayOwe threads servers accepted k (Own u) o later = u.0 ≡ k
MayOwe threads servers accepted k (Link x) o later = IsUnlinked threads servers o × (0 < total (owed_sweeps x) later)
MayOwe threads servers accepted k (OfMessage m) o later = m.0 ≤ accepted
MayOwe threads servers accepted k Kernel o later = Unit {0}
MayOwe threads servers accepted k _ o later = ⊥

abbrev pub EachMayOwe : List (Option ThreadRow) → ServerRows → ℕ → ℕ → List Owed → Type 0
EachMayOwe threads servers accepted k [] = Unit {0}
EachMayOwe threads servers accepted k (Close h o ∷ rest) = MayOwe threads servers accepted k h o rest × EachMayOwe threads servers accepted k rest
EachMayOwe threads servers accepted k (Sweep o ∷ rest) = EachMayOwe threads servers accepted k rest

-- what each thread owes is its own, and weighs at most 12: two closes, the close of a link and a sweep; between a find and its return it owes
-- nothing
pub record AreDuties (threads : List (Option ThreadRow)) (servers : ServerRows) (accepted : ℕ) (owed : List (List Owed)) : Type 0 where
  pub own : (k : ℕ) → EachMayOwe threads servers accepted k (slice_index_or owed k [])
  pub few : (k : ℕ) → total weight (slice_index_or owed k []) ≤ 12
  pub returns : (k : ℕ) → is_returning (part_of (slice_index_or threads k None)) ≡ true → slice_index_or owed k [] ≡ []

-- a thread that holds a fast mutex is live, serves no queue, waits for nothing, isn't between a find and its return, and wants no other
pub record IsHolder (threads : List (Option ThreadRow)) (r : NanoRows) (u : ObjNo) : Type 0 where
  pub row : ThreadRow
  pub is : slice_index_or threads u.0 None ≡ Some row
  pub live : row.stage ≡ Live
  pub serves : served_queue row.role ≡ None
  pub waits : row.waiting ≡ waiting.Nothing
  pub going : is_returning row.part ≡ false
  pub wants : want_of r u ≡ None

-- the rows of threads that synchronize: one for each thread, and a holder or none for each fast mutex of the script
pub record AreSynchronized (script : Script) (threads : List (Option ThreadRow)) (r : NanoRows) : Type 0 where
  pub rows : AreNanoRows r
  pub sized : length r.signals ≡ length threads
  pub mutexes : length r.holders ≡ script.fast
  pub holders : (f : ℕ) (u : ObjNo) → holder_of r f ≡ Some u → IsHolder threads r u

-- the rows of deferred function calls are made for those of the script, and so is what waits in the immediate queue
pub record AreCalls (script : Script) (r : DeferredRows) : Type 0 where
  pub idfcs : r.idfcs ≡ length script.idfcs
  pub places : r.places ≡ (calls_of script).places
  pub queues : length r.queues ≡ 1 + length script.queues
  pub known : AllByRecursion (IsKnown r) r.immediate

-- the rows of requests: one for each thread; the status of a request is pending, and no two requests have one status
pub record AreRequests (count : ℕ) (r : RequestRows) : Type 0 where
  pub rows : AreRequestRows r
  pub sized : length r.signals ≡ count
  pub devices : length r.devices ≡ DEVICES
  pub pending : (d : ℕ) (request : Request) → request_at r d ≡ Some request → is_pending r request.thread request.status ≡ true
  pub apart : (d e : ℕ) (request : Request) → request_at r d ≡ Some request → request_at r e ≡ Some request → d ≡ e

-- a status that may be completed: it is pending, and no device has its request
pub record IsAwaited (r : RequestRows) (t : ObjNo) (s : ℕ) : Type 0 where
  pub thread : t.0 < length r.signals
  pub status : s < 16
  pub waits : is_pending r t s ≡ true
  pub alone : (d : ℕ) → request_at r d ≡ Some (record { thread = t; status = s }) → ⊥

-- how often a thread is logged on with a status, on whichever threads
abbrev pub logon_names : ObjNo → ℕ → ObjNo × ℕ → ℕ
logon_names u s logon = if is_logon u s logon then 1 else 0

abbrev pub times_logged : List (List (ObjNo × ℕ)) → ObjNo → ℕ → ℕ
times_logged logons u s = total (total (logon_names u s)) logons

-- logons: a list for each thread; and a status that a logon has is awaited, and no other logon has it
pub record AreLogons (count : ℕ) (r : RequestRows) (logons : List (List (ObjNo × ℕ))) : Type 0 where
  pub sized : length logons ≡ count
  pub once : (u : ObjNo) (s : ℕ) → times_logged logons u s ≤ 1
  pub waits : (u : ObjNo) (s : ℕ) → 0 < times_logged logons u s → IsAwaited r u s

-- a status that is awaited, and that no logon has
abbrev pub IsUntold : RequestRows → List (List (ObjNo × ℕ)) → ObjNo → ℕ → Type 0
IsUntold r logons u s = IsAwaited r u s × (times_logged logons u s ≡ 0)

-- a thread that is live
pub record IsLiveThread (threads : List (Option ThreadRow)) (u : ObjNo) : Type 0 where
  pub row : ThreadRow
  pub is : slice_index_or threads u.0 None ≡ Some row
  pub live : row.stage ≡ Live

-- only live threads await something: a device's request is a live thread's, a live thread made each logon, and one that waits for an object is live
pub record AreAwaited (threads : List (Option ThreadRow)) (r : RequestRows) (made : List (List (ObjNo × ℕ))) : Type 0 where
  pub requests : (d : ℕ) (request : Request) → request_at r d ≡ Some request → IsLiveThread threads request.thread
  pub logons : (u : ObjNo) (s : ℕ) → 0 < times_logged made u s → IsLiveThread threads u
  pub waits : (k : ℕ) (row : ThreadRow) (o : ObjNo) → slice_index_or threads k None ≡ Some row → row.waiting ≡ waiting.Lock o → row.stage ≡ Live

-- a thread that waits for an object
pub record Awaits (threads : List (Option ThreadRow)) (t o : ObjNo) : Type 0 where
  pub row : ThreadRow
  pub is : slice_index_or threads t.0 None ≡ Some row
  pub waits : row.waiting ≡ waiting.Lock o

-- a thread that owns an object
pub record IsOwnerOf (r : LockRows) (t o : ObjNo) : Type 0 where
  pub owner : Owner
  pub is : owner_at r o ≡ Some owner
  pub thread : owner.thread.0 ≡ t.0

-- how often a thread holds an object
abbrev pub times_held : List (List ObjNo) → ObjNo → ObjNo → ℕ
times_held mutexes t o = total (mutex_names o) (slice_index_or mutexes t.0 [])

-- The rows of mutexes and semaphores: one for each object that may be made; counts stay in their range; the owner of a
-- mutex holds it once, and nobody else does; whoever stands among an object's waiters waits for it, and owes no close of
-- its ownership; and a number without an object has no owner, no waiter and count 0.
pub record AreLocks (objects : List (Option ObjectRow)) (threads : List (Option ThreadRow)) (mutexes : List (List ObjNo)) (owed : List (List Owed)) (r : LockRows) : Type 0 where
  pub owners_sized : length r.owners ≡ OBJECTS
  pub counts_sized : length r.counts ≡ OBJECTS
  pub waiters_sized : length r.waiters ≡ OBJECTS
  pub mutexes_sized : length mutexes ≡ length threads
  pub counts : (o : ObjNo) → count_at r o ≤ 2147483647
  pub owned : (o : ObjNo) (owner : Owner) → owner_at r o ≡ Some owner → times_held mutexes owner.thread o ≡ 1
  pub held : (t o : ObjNo) → 0 < times_held mutexes t o → IsOwnerOf r t o
  pub waiters : (t o : ObjNo) → is_among t (waiters_at r o) ≡ true → Awaits threads t o
  pub paid : (t o : ObjNo) → is_among t (waiters_at r o) ≡ true → total (owed_by (Own t) o) (slice_index_or owed t.0 []) ≡ 0
  pub owners_made : (o : ObjNo) → slice_index_or objects o.0 None ≡ None → owner_at r o ≡ None
  pub waiters_made : (o : ObjNo) → slice_index_or objects o.0 None ≡ None → waiters_at r o ≡ []
  pub counts_made : (o : ObjNo) → slice_index_or objects o.0 None ≡ None → count_at r o ≡ 0

-- the memory of a process has 1,024 bytes, and a thread's process has one
pub record AreMemories (threads : List (Option ThreadRow)) (memories : List (Option (List ℕ))) : Type 0 where
  pub sized : length memories ≡ length threads
  pub bytes : (k : ℕ) (bytes : List ℕ) → slice_index_or memories k None ≡ Some bytes → length bytes ≡ 1024
  pub processes : (k : ℕ) (row : ThreadRow) → slice_index_or threads k None ≡ Some row → is_some (slice_index_or memories row.process.0 None) ≡ true

-- an object that is there and has a reference left
abbrev pub IsAlive : Option ObjectRow → Type 0
IsAlive None = ⊥
IsAlive (Some row) = row.dead ≡ false

-- 1 where an object is dead and not swept yet
abbrev pub dead_bit : Bool → ℕ
dead_bit true = 1
dead_bit false = 0

abbrev pub is_dead : Option ObjectRow → ℕ
is_dead None = 0
is_dead (Some row) = dead_bit row.dead

-- whether a thread's death came so far that it has given up all
abbrev pub is_spent : Stage → Bool
is_spent Cleaned = true
is_spent Buried = true
is_spent _ = false

-- a thread that has given up all: it uses nothing, waits for nothing, isn't between a find and its return, and has no handle of its own
pub record IsSpent (tables : List (List HandleSlot)) (k : ℕ) (row : ThreadRow) : Type 0 where
  pub unused : row.uses ≡ None
  pub waits : row.waiting ≡ waiting.Nothing
  pub going : is_returning row.part ≡ false
  pub empty : (i : ℕ) → (slot_at (slice_index_or tables k []) i).object ≡ None

-- each thread that is cleaned or buried has given up all, one whose object is dead has no link any more, and a number without an object is no thread
pub record AreSpent (objects : List (Option ObjectRow)) (tables : List (List HandleSlot)) (threads : List (Option ThreadRow)) : Type 0 where
  pub rows : (k : ℕ) (row : ThreadRow) → slice_index_or threads k None ≡ Some row → is_spent row.stage ≡ true → IsSpent tables k row
  pub unlinked : (k : ℕ) (row : ThreadRow) → slice_index_or threads k None ≡ Some row → is_dead (slice_index_or objects k None) ≡ 1 → row.link ≡ None
  pub threads_made : (k : ℕ) → slice_index_or objects k None ≡ None → slice_index_or threads k None ≡ None

-- how often the sweep of an object is owed
abbrev pub sweeps_of : State → ObjNo → ℕ
sweeps_of S o = total (total (owed_sweeps o)) S.references.owed

-- objects live by their references and by who is out on them: one that is referred to is alive, one that is alive is referred to or somebody is
-- out on it, and exactly a dead one's sweep is owed, once
pub record AreLives (S : State) : Type 0 where
  pub alive : (o : ObjNo) → 0 < count_of S o → IsAlive (object_of S o)
  pub counted : (o : ObjNo) → IsAlive (object_of S o) → 0 < count_of S o + outs_of S o
  pub sweeps : (o : ObjNo) → sweeps_of S o ≡ is_dead (object_of S o)

-- no thread stands in the list again behind its place
abbrev pub AreApart : List ObjNo → Type 0
AreApart [] = Unit {0}
AreApart (t ∷ ts) = (is_listed ts t ≡ false) × AreApart ts

-- the list has exactly the threads that are ready, each once
pub record IsReadyList (script : Script) (S : State) (qs : List ObjNo) : Type 0 where
  pub exact : (t : ObjNo) → is_listed qs t ≡ is_ready script S t
  pub once : AreApart qs

-- The conditions on the rows of each group. Each reads its group whole, and of the other groups what it names.

-- objects, handle tables, threads and duties; the sessions and the messages that were accepted say whose closes may be owed
pub record AreReferenceRows (script : Script) (reuse : Bool) (servers : ServerRows) (accepted : ℕ) (r : References) : Type 0 where
  pub sized : AreSized r
  pub places : ArePlaces reuse r
  pub tables : AreTables r.handles
  pub threads : AreThreads script r.threads
  pub duties : AreDuties r.threads servers accepted r.owed
  pub spent : AreSpent r.objects r.handles r.threads

-- what threads synchronize by, for so many threads and for these objects
pub record AreSynchronizationRows (script : Script) (count : ℕ) (objects : List (Option ObjectRow)) (threads : List (Option ThreadRow))
    (owed : List (List Owed)) (r : Synchronization) : Type 0 where
  pub nano : AreSynchronized script threads r.nano
  pub deferred : AreCalls script r.deferred
  pub requests : AreRequests count r.requests
  pub locks : AreLocks objects threads r.mutexes owed r.locks
  pub logons : AreLogons count r.requests r.logons
  pub awaited : AreAwaited threads r.requests r.logons

-- servers and messages, for these objects; locks are no servers, and a message's status is told by nothing else
pub record AreServingRows (objects : List (Option ObjectRow)) (threads : List (Option ThreadRow)) (locks : LockRows) (untold : ObjNo → ℕ → Type 0) (r : Serving) : Type 0 where
  pub servers : AreServers (λ row. is_spent row.stage) objects threads locks r.owned r.servers
  pub messages : AreMessages untold threads r.servers r.messages

-- what the kernel keeps for processes
pub record AreServiceRows (threads : List (Option ThreadRow)) (r : Services) : Type 0 where
  pub memories : AreMemories threads r.memories

-- the rows of every state, also of one in the middle of an action
pub record AreRows (script : Script) (S : State) : Type 0 where
  pub references : AreReferenceRows script S.mode.reuse S.serving.servers S.serving.messages.accepted S.references
  pub synchronization : AreSynchronizationRows script (length S.references.threads)
      S.references.objects S.references.threads S.references.owed S.synchronization
  pub serving : AreServingRows S.references.objects S.references.threads S.synchronization.locks
      (IsUntold S.synchronization.requests S.synchronization.logons) S.serving
  pub services : AreServiceRows S.references.threads S.services
  pub lives : AreLives S

-- a state and its ready list
pub record IsWellFormed (script : Script) (S : State) (qs : List ObjNo) : Type 0 where
  pub rows : AreRows script S
  pub ready : IsReadyList script S qs
