-- Moves in the kernel's tables: when one can be made, and what it leaves.
use Rattle.std.specs.Prelude.{◌≡◌, ℕ, ◌+◌, ◌-◌, ◌<◌, ◌≤◌, ◌==◌, if◌then◌else◌, Bool, true, false, List, [], ◌∷◌, length, IsTrue, Option, Some, None, slice_index, slice_set}
use Rattle.std.specs.List.{slice_index_or}
use Rattle.sym_base.specs.declared.limits.TheConstants.Limits.{OBJECTS, BOOT_OBJECTS}
use Rattle.sym_base.specs.declared.kind.Kind.{Kind}
use Rattle.sym_base.specs.declared.number.ObjNo.{ObjNo}
use Rattle.entry_log.specs.declared.effect.Holder.{Holder}
use Rattle.entry_log.specs.declared.effect.Holder.TheVariants.{InProcess, InThread, Temp, Own}
use Rattle.state_rows.specs.declared.duty.Owed.TheVariants.{Close, Sweep}
use Rattle.state_rows.specs.declared.object.ObjectRow.{ObjectRow}
use Rattle.state_rows.specs.declared.handle_slot.HandleSlot.{HandleSlot}
use Rattle.state_rows.specs.HandleSlots.{free_index}
use Rattle.state_rows.specs.ObjectRows.{is_taken, is_dead_row, place_of}
use Rattle.state_rows.specs.ServerChanges.{IsAlone}
use Rattle.objects.specs.Calls.{next_place}
use Rattle.objects.specs.Rows.{kept_name}
use Rattle.machine.specs.declared.moves.Move.{Move}
use Rattle.machine.specs.declared.moves.Move.TheVariants.{Make, Gain, Lose, Find, Open, Miss, GoOn, Keep, Write, WriteMessage, PutDown, Advance, Wait, Wake, SetPriority, Nano, Deferred, Requests, Locks, Logons, Death, Servers, Messages, Fill, Copies, Pay}
use Rattle.machine.specs.declared.state.State.{State}
use Rattle.state_rows.specs.declared.thread.ThreadRow.{ThreadRow}
use Rattle.script_types.specs.declared.script.Script.{Script}
use Rattle.machine.specs.Moves.{moved, next_object, told, objects_closed, threads_closed, owed_by_close, use_of_row}
use Rattle.machine.specs.Arrivals.{is_listed, touched}
use Rattle.machine.specs.Fits.{FitsDeferred}
use Rattle.machine.specs.Out.{seeks}
use Rattle.machine.specs.History.{keeping}
use Rattle.machine.specs.FitsCopies.{FitsCopies}
use Rattle.machine.specs.Choice.{priority_of}
use Rattle.machine.specs.References.{count_of, RefsMove}
use Rattle.machine.specs.Room.{MayAdvance}
use Rattle.machine.specs.Rows.{object_of, thread_of, owing}
use Rattle.machine.specs.ServerMoves.{servers_closed}
use Rattle.machine.specs.Task.{is_ready}
use Rattle.kernel_tables.specs.declared.tables.Tables.{Tables}
use Rattle.kernel_tables.specs.Counts.{CountsMove}
use Rattle.table_moves.specs.NanoMoved.{CanNano}
use Rattle.kernel_tables.specs.LockMoved.{CanLock}
use Rattle.kernel_tables.specs.ServerMoved.{CanServe, CanMessage}
use Rattle.table_moves.specs.LogonMoved.{CanLogon}
use Rattle.kernel_tables.specs.Noted.{TiedTables}
use Rattle.kernel_tables.specs.Referred.{HasPlaces, IsReferred}
use Rattle.readings.specs.Dying.{dead_by}
use Rattle.table_moves.specs.Notes.{Notes, HasNoteOf}
use Rattle.table_moves.specs.ObjectsView.{IsThere}
use Rattle.table_moves.specs.RequestMoved.{CanRequest}
use Rattle.kernel_tables.specs.Choosing.{mode_after}
use Rattle.kernel_tables.specs.StateOf.{state_of}

-- there is room for one more object, and nothing refers to it yet
pub record IsNew (S : State) : Type 0 where
  pub room : (next_object S).0 < OBJECTS
  pub fresh : count_of S (next_object S) ≡ 0

-- a thread with a row, whose call uses nothing
pub record UsesNothing (x : Option ThreadRow) : Type 0 where
  pub row : ThreadRow
  pub is : x ≡ Some row
  pub unused : row.uses ≡ None

-- a holder may get a reference: a thread's call uses nothing yet
abbrev pub MayGain : State → Holder → Type 0
MayGain S (Temp t) = UsesNothing (thread_of S t)
MayGain S _ = Unit {0}

-- 1 for a move that makes an object, and the words have a place for it
abbrev pub making_bit : Move → ℕ
making_bit (Make kind name h) = 1
making_bit _ = 0

abbrev pub HasPlaceFor : {W N : Type 0} → ℕ → Tables W N → Type 0
HasPlaceFor makes tables = 0 < makes → next_place tables.objects.reuse tables.objects.rows tables.objects.made < tables.objects.notes.places

-- all rows of an object may go: it is dead, uses nothing and is linked to nothing, and its number is one of the tables'
pub record CanSweep (S : State) (o : ObjNo) : Type 0 where
  pub dead : IsTrue (is_dead_row (object_of S o))
  pub unused : use_of_row (thread_of S o) ≡ None
  pub locks : o.0 < length S.synchronization.locks.owners
  pub servers : o.0 < length S.serving.servers.servers
  pub alone : IsAlone S.serving.servers o

-- a place of a handle table is the least free one
abbrev pub IsLeast : List HandleSlot → ℕ → Type 0
IsLeast slots i = (i < length slots) × (i ≡ free_index slots)

-- a handle that comes gets the least free place
abbrev pub TakesLeast : List (List HandleSlot) → Holder → Type 0
TakesLeast tables (InProcess p i) = IsLeast (slice_index_or tables p.0 []) i
TakesLeast tables (InThread t i) = IsLeast (slice_index_or tables t.0 []) i
TakesLeast tables _ = Unit {0}

-- an object whose reference a holder may give up: that of an owner has a number of its lists
abbrev pub MayLose : Holder → ObjNo → Type 0
MayLose (Own t) o = o.0 < OBJECTS
MayLose _ o = Unit {0}

-- an object can be made, whose name is empty where it is a session, a reference be added to an object that has some, and a thread go on
abbrev pub CanMake : Kind → List ℕ → Holder → State → Type 0
CanMake kind name h S =
    (kept_name kind name ≡ name) × (is_taken kind name S.references.objects ≡ false) × IsNew S × MayGain S h
    × TakesLeast S.references.handles h

abbrev pub CanGain : Holder → ObjNo → State → Type 0
CanGain h o S = IsReferred S o × MayGain S h × TakesLeast S.references.handles h

abbrev pub CanAdvance : ObjNo → State → Type 0
CanAdvance u S = MayAdvance 1 S.references.threads × HasPlaces 1 S u

-- threads have the least numbers, and priorities below 64
abbrev pub AreKnown : State → Type 0
AreKnown S = (u : ObjNo) (row : ThreadRow) → thread_of S u ≡ Some row → (u.0 < BOOT_OBJECTS) × (row.priority < 64)

-- when a move in an action of thread t can be made: a reference is taken from an object that has some; what is swept is
-- dead, and uses nothing; and there is a place for what the thread owes then
abbrev pub CanMove : ObjNo → Move → State → Type 0
CanMove t (Make kind name h) S = CanMake kind name h S
CanMove t (Gain h o) S = CanGain h o S
CanMove t (Lose h o) S = IsReferred S o × HasPlaces 2 S t × MayLose h o
CanMove t (Find u o) S = Unit {0}
CanMove t (Open u o part) S = CanGain (Temp u) o S
CanMove t (Miss u o) S = Unit {0}
CanMove t (GoOn u part) S = Unit {0}
CanMove t (Keep u number) S = Unit {0}
CanMove t (Write u x value) S = x < 8
CanMove t (WriteMessage u y number) S = y < 8
CanMove t (PutDown u) S = HasPlaces 1 S u
CanMove t (Advance u) S = CanAdvance u S
CanMove t (Wait u what) S = Unit {0}
CanMove t (Wake u) S = Unit {0}
CanMove t (SetPriority u priority) S = AreKnown S
CanMove t (Nano m) S = CanNano m S.synchronization.nano
CanMove t (Deferred m) S = FitsDeferred m S.synchronization.deferred
CanMove t (Requests m) S = CanRequest m S.synchronization.requests
CanMove t (Locks m) S = CanLock m S
CanMove t (Logons m) S = CanLogon m (length S.references.owed) S.synchronization.logons
CanMove t (Death m) S = HasPlaces 1 S t
CanMove t (Servers m) S = CanServe m S
CanMove t (Messages m) S = CanMessage t m S
CanMove t (Fill p at length byte) S = at + length ≤ 1024
CanMove t (Copies m) S = FitsCopies m S
CanMove t (Pay (Close h o)) S = IsReferred S o × HasPlaces 2 S t
CanMove t (Pay (Sweep o)) S = CanSweep S o

-- a move of a rare kind
abbrev pub IsRare : Move → Type 0
IsRare (SetPriority u priority) = Unit {0}
IsRare (Nano m) = Unit {0}
IsRare (Deferred m) = Unit {0}
IsRare (Locks m) = Unit {0}
IsRare (Logons m) = Unit {0}
IsRare (Death m) = Unit {0}
IsRare (Servers m) = Unit {0}
IsRare (Fill p at length byte) = Unit {0}
IsRare (Copies m) = Unit {0}
IsRare m = ⊥

-- the state in which a move was made: the one before it, with the choice that the move left
abbrev pub chosen_state : {W N : Type 0} → Tables W N → Tables W N → State
chosen_state old new = keeping new.mode.keep (state_of old)

-- A move of an action of thread t was made: the tables stand for the state that it leaves, the counts moved with what it
-- tells, what is kept of threads is theirs, an object that died of it leaves nothing to choose, and these notes are left.
pub record IsMovedTo {W N : Type 0} (left : Notes) (t : ObjNo) (m : Move) (old new : Tables W N) : Type 0 where
  pub state : state_of new ≡ moved t m (chosen_state old new)
  pub counts : CountsMove old.objects.counts new.objects.counts (told m (chosen_state old new))
  pub tied : TiedTables new
  pub mode : new.mode ≡ mode_after (dead_by m (chosen_state old new)) old.mode
  pub notes : new.objects.notes ≡ left
  pub reuse : new.objects.reuse ≡ old.objects.reuse

-- and no note came or went
abbrev pub IsMoved : {W N : Type 0} → ObjNo → Move → Tables W N → Tables W N → Type 0
IsMoved t m old new = IsMovedTo old.objects.notes t m old new

-- the object that is dead after a close, the last or not
abbrev pub dead_of : Bool → ObjNo → Option ObjNo
dead_of last o = if last then Some o else None

-- what tables stand for once a reference of an object with this link went, the last or not: the object is dead then,
-- its link is off its row, and thread t owes the close of the link, and then the sweep
abbrev pub closed : Bool → ObjNo → ObjNo → Option ObjNo → State → State
closed last t o link S = record S {
  references = record S.references {
    objects = objects_closed last o S.references.objects;
    threads = threads_closed last o S.references.threads;
    owed = owing S.references.owed t (owed_by_close last o link);
  };
  serving = record S.serving { servers = servers_closed last o S.serving.servers };
}

-- it was the last only where it was the only one, and wasn't then only where a note of the object's place is out
pub record IsClosed {W N : Type 0} (t o : ObjNo) (link : Option ObjNo) (last : Bool) (old new : Tables W N) : Type 0 where
  pub state : state_of new ≡ closed last t o link (chosen_state old new)
  pub mode : new.mode ≡ mode_after (dead_of last o) old.mode
  pub counts : new.objects.counts ≡ slice_set old.objects.counts o.0 (slice_index old.objects.counts o.0 - 1)
  pub tied : TiedTables new
  pub notes : new.objects.notes ≡ old.objects.notes
  pub reuse : new.objects.reuse ≡ old.objects.reuse
  pub only : last ≡ true → slice_index old.objects.counts o.0 ≡ 1
  pub out : last ≡ false → slice_index old.objects.counts o.0 ≡ 1 → HasNoteOf old.objects.notes (place_of (slice_index_or old.objects.rows o.0 None))

-- whether a move sets a thread's priority; one whose row is swept has none any more
abbrev pub is_set : Move → ObjNo → Bool
is_set (SetPriority v priority) u = u.0 == v.0
is_set (Pay (Sweep o)) u = u.0 == o.0
is_set _ u = false

-- What a move in an action of thread t leaves is in order: the references move with what it tells, the numbers of messages so far have 31 bits,
-- priorities stay that it doesn't set, and so does the readiness of all threads that it doesn't touch; other threads that are out stay so; and an
-- object with a place that was given had it before, at its number.
pub record MoveRuns (script : Script) (t : ObjNo) (m : Move) (S : State) : Type 0 where
  pub refs : RefsMove S (moved t m S) (told m S)
  pub known : AreKnown (moved t m S)
  pub numbered : (moved t m S).serving.messages.accepted < 2147483648
  pub ranks : (u : ObjNo) → is_set m u ≡ false → priority_of (moved t m S) u ≡ priority_of S u
  pub apart : (u : ObjNo) → is_listed (touched t m) u ≡ false → is_ready script (moved t m S) u ≡ is_ready script S u
  pub out : (u o : ObjNo) (p : ℕ) → (u.0 ≡ t.0 → ⊥) → 0 < seeks o p (thread_of S u) → 0 < seeks o p (thread_of (moved t m S) u)
  pub stays : (o : ObjNo) (row : ObjectRow) → object_of (moved t m S) o ≡ Some row → row.place < S.references.made
      → IsThere (object_of S o) × (place_of (object_of S o) ≡ row.place)

-- it goes through where it can be made besides
pub record MoveGoes (script : Script) (t : ObjNo) (m : Move) (S : State) : Type 0 where
  pub can : CanMove t m S
  pub runs : MoveRuns script t m S

-- what each of several leaves is in order, when its turn comes
abbrev pub MovesRun : Script → ObjNo → List Move → State → Type 0
MovesRun script t [] S = Unit {0}
MovesRun script t (m ∷ ms) S = MoveRuns script t m S × MovesRun script t ms (moved t m S)

-- and each of several goes through
abbrev pub MovesGo : Script → ObjNo → List Move → State → Type 0
MovesGo script t [] S = Unit {0}
MovesGo script t (m ∷ ms) S = MoveGoes script t m S × MovesGo script t ms (moved t m S)
