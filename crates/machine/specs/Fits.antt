-- When the moves of an action fit the state.
use Rattle.std.specs.Prelude.{◌≡◌, ℕ, ◌+◌, ◌<◌, ◌≤◌, true, false, List, [], ◌∷◌, length, is_some, Option, Some, None}
use Rattle.sym_base.specs.declared.limits.TheConstants.Limits.{OBJECTS}
use Rattle.sym_base.specs.declared.number.ObjNo.{ObjNo}
use Rattle.sym_base.specs.declared.kind.Kind.{Kind}
use Rattle.script_types.specs.declared.script.Script.{Script}
use Rattle.state_rows.specs.ObjectRows.{is_session, is_taken, place_of}
use Rattle.entry_log.specs.declared.effect.Holder.{Holder}
use Rattle.entry_log.specs.declared.effect.Holder.TheVariants.{InProcess, InThread, Temp, Own, Link}
use Rattle.entry_log.specs.declared.step.Part.{Part}
use Rattle.machine.specs.declared.moves.Move.{Move}
use Rattle.machine.specs.declared.moves.Move.TheVariants.{Make, Gain, Lose, Find, Open, Miss, GoOn, Keep, Write, WriteMessage, PutDown, Advance, Wait, Wake, SetPriority, Nano, Deferred, Requests, Locks, Logons, Death, Servers, Messages, Fill, Copies, Pay}
use Rattle.machine.specs.declared.death_move.DeathMove.{DeathMove}
use Rattle.machine.specs.declared.death_move.DeathMove.TheVariants.{Note, Doom, Clean, Bury}
use Rattle.machine.specs.declared.nano_move.NanoMove.{NanoMove}
use Rattle.machine.specs.declared.nano_move.NanoMove.TheVariants.{Take, Give, Want, Suspend}
use Rattle.machine.specs.declared.deferred_move.DeferredMove.{DeferredMove}
use Rattle.machine.specs.declared.deferred_move.DeferredMove.TheVariants.{AddImmediate, AddFromInterrupt, Add, TakeImmediate, Take as TakeCall}
use Rattle.machine.specs.declared.request_move.RequestMove.{RequestMove}
use Rattle.machine.specs.declared.request_move.RequestMove.TheVariants.{Begin, Complete, SetPending, Signal as SignalStatus, DropAll, TakeSignal, Reply}
use Rattle.state_rows.specs.declared.deferred.DeferredRows.{DeferredRows}
use Rattle.state_rows.specs.Deferred.{queue_of}
use Rattle.state_rows.specs.declared.requests.RequestRows.{RequestRows}
use Rattle.state_rows.specs.declared.requests.Request.{Request}
use Rattle.state_rows.specs.Requests.{request_at, is_pending}
use Rattle.state_rows.specs.Nano.{suspend_count, holder_of, held_by}
use Rattle.machine.specs.NanoMoves.{nano_thread}
use Rattle.state_rows.specs.declared.thread.Stage.{Stage}
use Rattle.state_rows.specs.declared.thread.Stage.TheVariants.{Live, Doomed, Cleaned}
use Rattle.state_rows.specs.declared.thread.Waiting.TheVariants as waiting
use Rattle.state_rows.specs.declared.thread.ThreadRow.{ThreadRow}
use Rattle.machine.specs.declared.state.State.{State}
use Rattle.machine.specs.Rows.{object_of, table_of, thread_of, owed_of}
use Rattle.state_rows.specs.HandleSlots.{slot_at, free_index}
use Rattle.machine.specs.References.{count_of, total}
use Rattle.machine.specs.Holdings.{left_of, process_handles}
use Rattle.machine.specs.Moves.{next_object, moved, tell}
use Rattle.machine.specs.FitsCopies.{FitsCopies}
use Rattle.machine.specs.FitsServers.{IsUncalled, FitsServers, FitsMessages, HasSlot}
use Rattle.machine.specs.Serving.{times_owned, times_sent, begun}
use Rattle.machine.specs.ServerMoves.{owned_by}
use Rattle.machine.specs.declared.server_move.ServerMove.{ServerMove}
use Rattle.machine.specs.declared.server_move.ServerMove.TheVariants.{Join, End}
use Rattle.machine.specs.declared.message_move.MessageMove.{MessageMove}
use Rattle.machine.specs.declared.message_move.MessageMove.TheVariants.{Accept, Finish}
use Rattle.state_rows.specs.ServerRows.{server_at, server_of, is_closing}
use Rattle.machine.specs.Task.{instructions_of, served_queue}
use Rattle.machine.specs.Out.{is_returning, part_of}
use Rattle.machine.specs.HeldIn.{owed_by}
use Rattle.machine.specs.WellFormed.{IsAlive, IsAwaited, IsLiveThread, AreRows, Awaits, IsOwnerOf, times_logged, is_before_use, weight, IsSpent, is_spent}
use Rattle.machine.specs.Choice.{priority_of}
use Rattle.state_rows.specs.declared.locks.Locked.{Locked}
use Rattle.state_rows.specs.declared.locks.Locked.TheVariants.{Waits}
use Rattle.state_rows.specs.declared.locks.Unlocked.{Unlocked}
use Rattle.state_rows.specs.declared.locks.Signalled.{Signalled}
use Rattle.state_rows.specs.Locks.{owner_at, count_at, waiters_at, best_waiter, is_among}
use Rattle.state_rows.specs.LockChanges.{lock_answer, unlock_answer, signal_answer}
use Rattle.machine.specs.declared.logon_move.LogonMove.{LogonMove}
use Rattle.machine.specs.declared.logon_move.LogonMove.TheVariants.{Add as AddLogon, Remove as RemoveLogon, Drop as DropLogons}
use Rattle.machine.specs.declared.lock_move.LockMove.{LockMove}
use Rattle.machine.specs.declared.lock_move.LockMove.TheVariants.{Start, Lock, Unlock, Free, Leave, WaitOn, Signal}

-- the slot of a table that is taken next: the least that nothing stands in
pub record IsFreeSlot (S : State) (owner : ObjNo) (i : ℕ) : Type 0 where
  pub inside : i < length (table_of S owner)
  pub least : i ≡ free_index (table_of S owner)

-- a thread that isn't cleaned and not buried
abbrev pub IsUnspent : State → ObjNo → Type 0
IsUnspent S u = (row : ThreadRow) → thread_of S u ≡ Some row → is_spent row.stage ≡ false

-- a thread that is live, if it is there
abbrev pub IsLive : State → ObjNo → Type 0
IsLive S u = (row : ThreadRow) → thread_of S u ≡ Some row → row.stage ≡ Live

-- a thread that isn't cleaned and uses nothing, after its look or return, and owes no close of what it used
pub record UsesNothing (S : State) (t : ObjNo) : Type 0 where
  pub row : ThreadRow
  pub is : thread_of S t ≡ Some row
  pub later : is_before_use row.part ≡ false
  pub unused : row.uses ≡ None
  pub unspent : is_spent row.stage ≡ false
  pub paid : (o : ObjNo) → total (owed_by (Temp t) o) (owed_of S t) ≡ 0

-- this holder may hold the first reference to an object that is made: a thread's ownership is of a server that was set up for it, and isn't closing
pub record MayOwnNext (S : State) (t : ObjNo) : Type 0 where
  pub owner : IsLiveThread S.references.threads t
  pub server : server_at S.serving.servers (next_object S) ≡ Some (record { owner = t; is_closing = false })

-- this holder holds nothing, and may: a process only while a thread of it isn't cleaned
abbrev pub IsFree : State → Holder → Type 0
IsFree S (InProcess p i) = (thread_of S p ≡ None) × IsFreeSlot S p i × (0 < total (left_of p) S.references.threads)
IsFree S (InThread t i) = (is_some (thread_of S t) ≡ true) × IsFreeSlot S t i × IsUnspent S t
IsFree S (Temp t) = UsesNothing S t
IsFree S _ = ⊥

abbrev pub MayMakeWith : State → Holder → Type 0
MayMakeWith S (Own t) = MayOwnNext S t
MayMakeWith S h = IsFree S h

-- a thread that uses an object
pub record Uses (S : State) (t : ObjNo) (o : ObjNo) : Type 0 where
  pub row : ThreadRow
  pub is : thread_of S t ≡ Some row
  pub uses : row.uses ≡ Some o

-- this holder holds the object
abbrev pub Holds : State → Holder → ObjNo → Type 0
Holds S (InProcess p i) o = (thread_of S p ≡ None) × ((slot_at (table_of S p) i).object ≡ Some o)
Holds S (InThread t i) o = (is_some (thread_of S t) ≡ true) × ((slot_at (table_of S t) i).object ≡ Some o)
Holds S (Temp t) o = Uses S t o
Holds S (Link s) o = server_of S.serving.servers s ≡ Some o
Holds S (Own t) o = 0 < times_owned S.serving.owned t o
Holds S _ o = ⊥

-- a thread that isn't at its list's end
pub record IsAtInstruction (script : Script) (S : State) (t : ObjNo) : Type 0 where
  pub row : ThreadRow
  pub is : thread_of S t ≡ Some row
  pub next : row.next_instruction < length (instructions_of script row.role)

-- a thread isn't between a find and its return
abbrev pub IsBack : State → ObjNo → Type 0
IsBack S t = is_returning (part_of (thread_of S t)) ≡ false

-- a thread that isn't cleaned and isn't between a find and its return may go on to a step: what comes before the use of anything comes
-- while it uses nothing; behind the last step of its instruction comes no other; and only a find leads to a return
pub record MayGoOn (S : State) (t : ObjNo) (part : Option Part) : Type 0 where
  pub unused : (row : ThreadRow) → thread_of S t ≡ Some row → is_before_use part ≡ true → row.uses ≡ None
  pub going : IsBack S t
  pub unspent : IsUnspent S t
  pub other : is_returning part ≡ false
  pub ends : (row : ThreadRow) → thread_of S t ≡ Some row → begun row.part ≤ begun part

-- a thread that may find an object: it is at an instruction, isn't cleaned, uses, owes and holds nothing, and isn't between another find and
-- its return
pub record MayFind (script : Script) (S : State) (t o : ObjNo) : Type 0 where
  pub object : is_some (object_of S o) ≡ true
  pub row : ThreadRow
  pub is : thread_of S t ≡ Some row
  pub at : row.next_instruction < length (instructions_of script row.role)
  pub unused : row.uses ≡ None
  pub going : is_returning row.part ≡ false
  pub begins : begun row.part ≡ 0
  pub unspent : is_spent row.stage ≡ false
  pub paid : owed_of S t ≡ []
  pub holds : held_by S.synchronization.nano t ≡ None

-- a thread that may come back from the find of this object
pub record ComesBack (S : State) (t o : ObjNo) : Type 0 where
  pub row : ThreadRow
  pub is : thread_of S t ≡ Some row
  pub returns : is_returning row.part ≡ true
  pub found : row.sought ≡ o

-- it opens an object that is alive and has the place which it found, and goes on to a step in which it uses that; or misses one that isn't so
pub record MayOpen (S : State) (t o : ObjNo) (part : Option Part) : Type 0 where
  pub back : ComesBack S t o
  pub alive : IsAlive (object_of S o)
  pub same : place_of (object_of S o) ≡ back.row.sought_place
  pub later : is_before_use part ≡ false

pub record MayMiss (S : State) (t o : ObjNo) : Type 0 where
  pub back : ComesBack S t o
  pub over : IsAlive (object_of S o) → place_of (object_of S o) ≡ back.row.sought_place → ⊥

-- an object may be made of this kind and name: there is room, and its name isn't taken
pub record MayMake (S : State) (kind : Kind) (name : List ℕ) : Type 0 where
  pub room : (next_object S).0 < OBJECTS
  pub new : is_taken kind name S.references.objects ≡ false

-- a session has no name
abbrev pub HasName : Kind → List ℕ → Type 0
HasName kind name = is_session kind ≡ true → name ≡ []

-- a thread that may take a fast mutex: it is live, serves no queue, waits for nothing, isn't between a find and its return, and holds none
pub record MayTake (S : State) (t : ObjNo) : Type 0 where
  pub row : ThreadRow
  pub is : thread_of S t ≡ Some row
  pub live : row.stage ≡ Live
  pub serves : served_queue row.role ≡ None
  pub waits : row.waiting ≡ waiting.Nothing
  pub going : is_returning row.part ≡ false
  pub holds : held_by S.synchronization.nano t ≡ None

-- A move in the rows of threads that synchronize fits them: a fast mutex is taken that is free, and given up by its
-- holder; one who holds a fast mutex wants none; and a thread is suspended 127 times at most.
abbrev pub FitsNano : NanoMove → State → Type 0
FitsNano (Take t f) S = (f < length S.synchronization.nano.holders) × (holder_of S.synchronization.nano f ≡ None) × MayTake S t
FitsNano (Give t f) S = (f < length S.synchronization.nano.holders) × (holder_of S.synchronization.nano f ≡ Some t)
FitsNano (Want t None) S = Unit {0}
FitsNano (Want t (Some f)) S = (f < length S.synchronization.nano.holders) × (held_by S.synchronization.nano t ≡ None)
FitsNano (Suspend t) S = suspend_count S.synchronization.nano t < 127
FitsNano _ S = Unit {0}

-- A move in the rows of deferred function calls fits them: what it names is there, and a call joins its own queue.
abbrev pub FitsDeferred : DeferredMove → DeferredRows → Type 0
FitsDeferred (AddImmediate item) r = item < r.idfcs
FitsDeferred (AddFromInterrupt dfc) r = dfc < length r.places
FitsDeferred (Add dfc queue) r = (dfc < length r.places) × (queue ≡ queue_of r dfc)
FitsDeferred TakeImmediate r = Unit {0}
FitsDeferred (TakeCall queue) r = queue < length r.queues

-- a device that may get a request of a thread's status: it has none, and the status isn't pending
pub record MayBegin (r : RequestRows) (d : ℕ) (t : ObjNo) (s : ℕ) : Type 0 where
  pub device : d < length r.devices
  pub thread : t.0 < length r.signals
  pub status : s < 16
  pub free : request_at r d ≡ None
  pub done : is_pending r t s ≡ false

-- A move in the rows of requests fits them: what it names is there, a request begins where it may, the device's own is completed, and so is a
-- status that neither a device nor a logon has.
abbrev pub FitsRequests : RequestMove → RequestRows → List (List (ObjNo × ℕ)) → Type 0
FitsRequests (Begin d t s) r logons = MayBegin r d t s
FitsRequests (Reply t code) r logons = t.0 < length r.signals
FitsRequests (Complete d t s code) r logons = (d < length r.devices) × (request_at r d ≡ Some (record { thread = t; status = s }))
FitsRequests (SetPending t s) r logons = (t.0 < length r.signals) × (s < 16)
FitsRequests (SignalStatus t s code) r logons = IsAwaited r t s × (times_logged logons t s ≡ 0)
FitsRequests (DropAll t) r logons = t.0 < length r.signals
FitsRequests (TakeSignal t) r logons = t.0 < length r.signals

-- a request begins, a status is completed that no device and no message has, and a message is replied to, only of a live thread
abbrev pub IsOfLive : RequestMove → State → Type 0
IsOfLive (Begin d t s) S = IsLiveThread S.references.threads t
IsOfLive (SignalStatus t s code) S = IsLiveThread S.references.threads t × (times_sent S.serving.messages.outstanding t s ≡ 0)
IsOfLive (Reply t code) S = IsLiveThread S.references.threads t
IsOfLive _ S = Unit {0}

-- A move in the rows of logons fits the state: what it names is there, and a logon is made by a live thread, on one that is there and isn't
-- cleaned, with a status that is awaited and that no other has.
abbrev pub FitsLogons : LogonMove → State → Type 0
FitsLogons (AddLogon t u s) S =
    (t.0 < length S.references.threads) × IsAwaited S.synchronization.requests u s
    × (times_logged S.synchronization.logons u s ≡ 0) × (times_sent S.serving.messages.outstanding u s ≡ 0)
    × IsLiveThread S.references.threads u × IsUnspent S t × (is_some (thread_of S t) ≡ true)
FitsLogons (RemoveLogon t u s) S = (t.0 < length S.references.threads) × (u.0 < length S.references.threads) × (s < 16)
FitsLogons (DropLogons u) S = u.0 < length S.references.threads

-- whether a thread stands among no waiters
abbrev pub WaitsNowhere : State → ObjNo → Type 0
WaitsNowhere S u = (o : ObjNo) → is_among u (waiters_at S.synchronization.locks o) ≡ false

-- an object that may become a semaphore with this count: nobody owns it or waits for it
pub record MayStart (S : State) (o : ObjNo) (count : ℕ) : Type 0 where
  pub object : IsAlive (object_of S o)
  pub few : count ≤ 2147483647
  pub free : owner_at S.synchronization.locks o ≡ None
  pub alone : waiters_at S.synchronization.locks o ≡ []

-- a thread that may come to stand among an object's waiters: it waits for that object, stands nowhere yet, and owes nothing
pub record MayJoin (S : State) (o t : ObjNo) : Type 0 where
  pub waits : Awaits S.references.threads t o
  pub nowhere : WaitsNowhere S t
  pub paid : owed_of S t ≡ []

-- a thread that may lock an object to which something refers, with the answer that the object's owner gives: it is live and owes nothing,
-- and the object is no server
pub record MayLock (S : State) (o t : ObjNo) (locked : Locked) : Type 0 where
  pub counted : 0 < count_of S o
  pub thread : is_some (thread_of S t) ≡ true
  pub live : IsLive S t
  pub paid : owed_of S t ≡ []
  pub other : server_at S.serving.servers o ≡ None
  pub answer : locked ≡ lock_answer (owner_at S.synchronization.locks o) t
  pub joins : locked ≡ Waits → MayJoin S o t

-- a thread that may unlock an object, with the answer that owner and waiters give: it stands among no waiters, and isn't
-- between a find and its return
pub record MayUnlock (S : State) (o t : ObjNo) (unlocked : Unlocked) : Type 0 where
  pub object : IsAlive (object_of S o)
  pub thread : is_some (thread_of S t) ≡ true
  pub nowhere : WaitsNowhere S t
  pub going : IsBack S t
  pub answer : unlocked ≡ unlock_answer (owner_at S.synchronization.locks o) t (best_waiter (priority_of S) S.synchronization.locks o)

-- a thread that may give a mutex up with all its levels, to this waiter where there is one: it owns it, stands among no waiters, and isn't
-- between a find and its return
pub record MayFree (S : State) (o t : ObjNo) (best : Option ObjNo) : Type 0 where
  pub object : IsAlive (object_of S o)
  pub thread : is_some (thread_of S t) ≡ true
  pub nowhere : WaitsNowhere S t
  pub going : IsBack S t
  pub owns : IsOwnerOf S.synchronization.locks t o
  pub chosen : best ≡ best_waiter (priority_of S) S.synchronization.locks o

-- a thread that may wait on an object: it joins the waiters at count 0
pub record MayWaitOn (S : State) (o t : ObjNo) : Type 0 where
  pub alive : IsAlive (object_of S o)
  pub joins : count_at S.synchronization.locks o ≡ 0 → MayJoin S o t

-- an object that may be signalled, with the answer that waiters and count give
pub record MaySignal (S : State) (o : ObjNo) (signalled : Signalled) : Type 0 where
  pub object : IsAlive (object_of S o)
  pub answer : signalled ≡ signal_answer (best_waiter (priority_of S) S.synchronization.locks o) (count_at S.synchronization.locks o)

-- A move in the rows of mutexes and semaphores, in an action of thread t, fits the state: its answer is the one that they
-- give, and only the acting thread gives a mutex up.
abbrev pub FitsLocks : ObjNo → LockMove → State → Type 0
FitsLocks t (Start o count) S = MayStart S o count
FitsLocks t (Lock o u locked) S = MayLock S o u locked
FitsLocks t (Unlock o u unlocked) S = (u ≡ t) × MayUnlock S o u unlocked
FitsLocks t (Free o u best) S = (u ≡ t) × MayFree S o u best
FitsLocks t (Leave u) S = is_some (thread_of S u) ≡ true
FitsLocks t (WaitOn o u) S = MayWaitOn S o u
FitsLocks t (Signal o signalled) S = MaySignal S o signalled

-- a thread that owns no server, and one whose servers are all closing
abbrev pub OwnsNothing : State → ObjNo → Type 0
OwnsNothing S u = owned_by S.serving.owned u ≡ []

abbrev pub OwnsClosing : State → ObjNo → Type 0
OwnsClosing S u = (o : ObjNo) → 0 < times_owned S.serving.owned u o → is_closing S.serving.servers o ≡ true

-- a thread that may be cleaned: it has given up all, also what its process has where nobody else of that is left, and holds no fast mutex
abbrev pub MayClean : State → ObjNo → Type 0
MayClean S u =
    (held_by S.synchronization.nano u ≡ None)
    × ((row : ThreadRow) → thread_of S u ≡ Some row → IsSpent S.references.handles u.0 row)
    × ((row : ThreadRow) → thread_of S u ≡ Some row → process_handles S u row.process ≡ []) × OwnsNothing S u

-- a thread that awaits nothing: no device has a request of it, and it made no logon
pub record AwaitsNothing (S : State) (u : ObjNo) : Type 0 where
  pub requests : (d : ℕ) (request : Request) → request_at S.synchronization.requests d ≡ Some request → request.thread.0 ≡ u.0 → ⊥
  pub logons : (s : ℕ) → times_logged S.synchronization.logons u s ≡ 0

-- a thread whose death is at this stage
pub record IsAtStage (S : State) (u : ObjNo) (stage : Stage) : Type 0 where
  pub row : ThreadRow
  pub is : thread_of S u ≡ Some row
  pub at : row.stage ≡ stage

-- a thread that acts and may come to owe something: it is there, and isn't between a find and its return
pub record MayOweMore (S : State) (t : ObjNo) : Type 0 where
  pub thread : is_some (thread_of S t) ≡ true
  pub going : IsBack S t

-- A move in the row of a thread that dies, in an action of thread t, fits the state: who is doomed is live, stands among no waiters and holds no
-- fast mutex, and awaits nothing; who is cleaned is the doomed thread itself, and has given up all; who is buried is cleaned.
abbrev pub FitsDeath : ObjNo → DeathMove → State → Type 0
FitsDeath t (Note u exit) S = Unit {0}
FitsDeath t (Doom u exit) S = IsAtStage S u Live × (held_by S.synchronization.nano u ≡ None) × WaitsNowhere S u × AwaitsNothing S u × OwnsClosing S u
FitsDeath t (Clean u) S = IsAtStage S u Doomed × MayClean S u × (u ≡ t)
FitsDeath t (Bury u) S = IsAtStage S u Cleaned × MayOweMore S t

-- what a thread comes to hold, or gives up, by an action is its own, its process's, or no thread's
abbrev pub IsOwn : ObjNo → Holder → Type 0
IsOwn t (InThread u i) = u ≡ t
IsOwn t (Temp u) = u ≡ t
IsOwn t _ = Unit {0}

-- A move in an action of thread t fits the state: it finds, comes back, goes on and keeps a number itself. Whoever gets a reference gets it to
-- an object that something refers to, or makes it, or comes back to it. What is owed is paid by an action of its own.
abbrev pub FitsMove : Script → ObjNo → Move → State → Type 0
FitsMove script t (Make kind name h) S = MayMake S kind name × MayMakeWith S h × HasName kind name × IsOwn t h
FitsMove script t (Gain h o) S = IsFree S h × (0 < count_of S o) × IsOwn t h
FitsMove script t (Lose h o) S = IsBack S t × Holds S h o × IsOwn t h
FitsMove script t (Find u o) S = MayFind script S u o × (u ≡ t)
FitsMove script t (Open u o part) S = MayOpen S u o (Some part) × (u ≡ t)
FitsMove script t (Miss u o) S = MayMiss S u o × (u ≡ t)
FitsMove script t (GoOn u part) S = MayGoOn S u (Some part) × (u ≡ t)
FitsMove script t (Keep u number) S = IsBack S u × (u ≡ t)
FitsMove script t (Write u x value) S = x < 8
FitsMove script t (WriteMessage u y number) S = y < 8
FitsMove script t (PutDown u) S = (u ≡ t) × MayOweMore S u
FitsMove script t (Advance u) S = (u ≡ t) × IsBack S u × IsAtInstruction script S u
FitsMove script t (Wait u what) S = (held_by S.synchronization.nano u ≡ None) × WaitsNowhere S u × IsLive S u × IsUncalled S u
FitsMove script t (Wake u) S = WaitsNowhere S u × IsUncalled S u
FitsMove script t (SetPriority u priority) S = priority ≤ 63
FitsMove script t (Nano m) S = (is_some (thread_of S (nano_thread m)) ≡ true) × FitsNano m S
FitsMove script t (Deferred m) S = FitsDeferred m S.synchronization.deferred
FitsMove script t (Requests m) S = FitsRequests m S.synchronization.requests S.synchronization.logons × IsOfLive m S
FitsMove script t (Locks m) S = FitsLocks t m S
FitsMove script t (Logons m) S = FitsLogons m S
FitsMove script t (Death m) S = FitsDeath t m S
FitsMove script t (Servers m) S = FitsServers m S
FitsMove script t (Messages m) S = FitsMessages m S × MayOweMore S t × HasSlot m S
FitsMove script t (Fill p at length byte) S = at + length ≤ 1024
FitsMove script t (Copies m) S = FitsCopies m S
FitsMove script t (Pay what) S = ⊥

-- each move fits when its turn comes
abbrev pub EachFits : Script → ObjNo → List Move → State → Type 0
EachFits script t [] S = Unit {0}
EachFits script t (m ∷ ms) S = FitsMove script t m S × EachFits script t ms (moved t m S)

-- the most effects that a move tells
abbrev pub nano_most : NanoMove → ℕ
nano_most (Take t f) = 1
nano_most (Give t f) = 1
nano_most _ = 0

abbrev pub request_most : RequestMove → ℕ
request_most (Complete d t s code) = 1
request_most (SignalStatus t s code) = 1
request_most (Reply t code) = 1
request_most _ = 0

abbrev pub lock_most : LockMove → ℕ
lock_most (Lock o t locked) = 2
lock_most (Unlock o t unlocked) = 3
lock_most (Free o t best) = 3
lock_most _ = 0

abbrev pub death_most : DeathMove → ℕ
death_most (Doom u exit) = 1
death_most (Bury u) = 1
death_most _ = 0

abbrev pub server_most : ServerMove → ℕ
server_most (Join s o slots t) = 1
server_most (End o) = 1
server_most _ = 0

abbrev pub message_most : MessageMove → ℕ
message_most (Accept slots row) = 3
message_most (Finish m code) = 1
message_most _ = 0

abbrev pub most_told : Move → ℕ
most_told (Lose h o) = 2
most_told (Pay what) = 2
most_told (GoOn u part) = 0
most_told (Keep u number) = 0
most_told (WriteMessage u y number) = 0
most_told (PutDown u) = 0
most_told (Servers m) = server_most m
most_told (Messages m) = message_most m
most_told (Write u x value) = 0
most_told (Advance u) = 0
most_told (Wait u what) = 0
most_told (Wake u) = 0
most_told (SetPriority u priority) = 0
most_told (Nano m) = nano_most m
most_told (Deferred m) = 0
most_told (Requests m) = request_most m
most_told (Locks m) = lock_most m
most_told (Logons m) = 0
most_told (Death m) = death_most m
most_told (Fill p at length byte) = 0
most_told (Copies m) = 0
most_told _ = 1

-- the most that a move adds to the weight of what its thread owes: with a last reference the close of a link and a
-- sweep, with the end of a use the close of a temporary reference, with a mutex that is given up the close of its ownership, with a
-- message that is finished the closes of its two references, and with a burial that of the kernel's reference
abbrev pub lock_owes : LockMove → ℕ
lock_owes (Unlock o t unlocked) = 4
lock_owes (Free o t best) = 4
lock_owes _ = 0

abbrev pub death_owes : DeathMove → ℕ
death_owes (Bury u) = 4
death_owes _ = 0

abbrev pub message_owes : MessageMove → ℕ
message_owes (Finish m code) = 8
message_owes _ = 0

abbrev pub most_owed : Move → ℕ
most_owed (Lose h o) = 3
most_owed (Advance u) = 4
most_owed (PutDown u) = 4
most_owed (Messages m) = message_owes m
most_owed (Locks m) = lock_owes m
most_owed (Death m) = death_owes m
most_owed _ = 0

-- The moves of an action fit: each when its turn comes; what the thread owes then weighs at most 12; and an entry has
-- at most four effects.
pub record Fits (script : Script) (t : ObjNo) (ms : List Move) (S : State) : Type 0 where
  pub each : EachFits script t ms S
  pub few : total weight (owed_of S t) + total most_owed ms ≤ 12
  pub told : length (tell t ms S) ≤ 4

-- the state in the middle of an action of a thread
pub record Sane (script : Script) (t : ObjNo) (S : State) : Type 0 where
  pub rows : AreRows script S
  pub inside : t.0 < length S.references.threads
