-- What each move changes in the rows, and what it tells. The ready list isn't among the rows here: it follows
-- the moves apart.
use Rattle.std.specs.Prelude.{ℕ, ◌+◌, ◌==◌, Bool, if◌then◌else◌, List, [], ◌∷◌, ◌++◌, Option, Some, None, false, slice_set}
use Rattle.std.specs.List.{slice_index_or}
use Rattle.sym_base.specs.declared.limits.TheConstants.Limits.{OBJECTS}
use Rattle.sym_base.specs.declared.number.ObjNo.{ObjNo}
use Rattle.sym_base.specs.declared.kind.Kind.{Kind}
use Rattle.entry_log.specs.declared.effect.Holder.{Holder}
use Rattle.entry_log.specs.declared.effect.Holder.TheVariants.{InProcess, InThread, Temp, Link}
use Rattle.entry_log.specs.declared.effect.Effect.{Effect}
use Rattle.entry_log.specs.declared.effect.Effect.TheVariants.{Plus, Minus, Dead, Swept, Seek, Missed}
use Rattle.entry_log.specs.declared.step.Part.{Part}
use Rattle.entry_log.specs.declared.step.Part.TheVariants.{Return}
use Rattle.state_rows.specs.declared.duty.Owed.{Owed}
use Rattle.state_rows.specs.declared.duty.Owed.TheVariants.{Close, Sweep}
use Rattle.state_rows.specs.declared.object.ObjectRow.{ObjectRow}
use Rattle.state_rows.specs.LockChanges.{after_sweep as locks_swept}
use Rattle.state_rows.specs.ObjectRows.{dead_row, next_number, place_of, with_object}
use Rattle.state_rows.specs.ServerChanges.{after_sweep as servers_swept}
use Rattle.machine.specs.declared.moves.Move.{Move}
use Rattle.machine.specs.declared.moves.Move.TheVariants.{Make, Gain, Lose, Find, Open, Miss, GoOn, Write, Advance, Wait, Wake, SetPriority, Nano, Keep, WriteMessage, PutDown, Deferred, Requests, Locks, Logons, Death, Servers, Messages, Fill, Copies, Pay}
use Rattle.state_rows.specs.declared.thread.Waiting.{Waiting}
use Rattle.state_rows.specs.declared.thread.Waiting.TheVariants as waiting
use Rattle.state_rows.specs.declared.handle_slot.HandleSlot.{HandleSlot}
use Rattle.state_rows.specs.declared.thread.ThreadRow.{ThreadRow}
use Rattle.machine.specs.declared.state.State.{State}
use Rattle.machine.specs.Rows.{object_of, thread_of, with_row, owing, without_first}
use Rattle.machine.specs.Handles.{with_slot, taken_slot, freed_slot}
use Rattle.machine.specs.Kept.{dies}
use Rattle.machine.specs.NanoMoves.{nano_moved, nano_told}
use Rattle.machine.specs.DeferredMoves.{deferred_moved}
use Rattle.machine.specs.RequestMoves.{request_moved, request_told}
use Rattle.machine.specs.LogonMoves.{logons_moved}
use Rattle.machine.specs.DeathMoves.{death_row, death_told, death_thread, death_owed}
use Rattle.machine.specs.LockMoves.{lock_moved, mutexes_moved, owed_moved, lock_told}
use Rattle.machine.specs.Memory.{filled, with_memory}
use Rattle.machine.specs.CopyMoves.{memories_copied, messages_copied}
use Rattle.machine.specs.ServerMoves.{servers_moved, server_told, owned_gain, owned_lose, servers_lose, servers_closed}
use Rattle.machine.specs.MessageMoves.{messages_moved, message_told, message_owed}
use Rattle.state_rows.specs.ServerRows.{server_of}

-- the number that a new object gets, which is fresh (`Fresh`): that of a swept object where numbers are used again
abbrev pub next_object : State → ObjNo
next_object S = record { 0 = next_number S.mode.reuse S.references.objects }

-- whether no number is left for a new object
abbrev pub no_number_left : State → Bool
no_number_left S = (next_object S).0 == OBJECTS

-- an object that is made, with its place
abbrev pub new_object : Kind → List ℕ → ℕ → ObjectRow
new_object kind name place = record { kind = kind; name = name; dead = false; place = place }

-- a thread's row with another use, without its link, with the object that it found and comes back for, with what it opened, with what it
-- missed, with a number that it found, with another next step, with a value in a register, with the number of a message in one, at its next
-- instruction, with what it waits for, and with another priority
abbrev pub with_use : Option ObjNo → ThreadRow → ThreadRow
with_use uses row = record row { uses = uses }

abbrev pub unlinked : ThreadRow → ThreadRow
unlinked row = record row { link = None }

abbrev pub with_found : ObjNo → ℕ → ThreadRow → ThreadRow
with_found o place row = record row { sought = o; sought_place = place; part = Some Return }

abbrev pub with_opened : ObjNo → Part → ThreadRow → ThreadRow
with_opened o part row = record row { uses = Some o; part = Some part }

abbrev pub with_missed : ThreadRow → ThreadRow
with_missed row = record row { part = None }

abbrev pub with_kept : ℕ → ThreadRow → ThreadRow
with_kept number row = record row { found = number }

abbrev pub with_part : Part → ThreadRow → ThreadRow
with_part part row = record row { part = Some part }

abbrev pub with_register : ℕ → ℕ → ThreadRow → ThreadRow
with_register x value row = record row { registers = slice_set row.registers x value }

abbrev pub with_message : ℕ → ℕ → ThreadRow → ThreadRow
with_message y number row = record row { messages = slice_set row.messages y number }

abbrev pub advanced : ThreadRow → ThreadRow
advanced row = record row { next_instruction = row.next_instruction + 1; part = None; found = 0; uses = None }

abbrev pub with_waiting : Waiting → ThreadRow → ThreadRow
with_waiting what row = record row { waiting = what }

abbrev pub with_priority : ℕ → ThreadRow → ThreadRow
with_priority priority row = record row { priority = priority }

-- the handle tables and the threads' rows, where a holder gets a reference
abbrev pub tables_gain : Holder → ObjNo → List (List HandleSlot) → List (List HandleSlot)
tables_gain (InProcess p i) o tables = with_slot tables p i (taken_slot o)
tables_gain (InThread t i) o tables = with_slot tables t i (taken_slot o)
tables_gain _ o tables = tables

abbrev pub threads_gain : Holder → ObjNo → List (Option ThreadRow) → List (Option ThreadRow)
threads_gain (Temp t) o threads = with_row threads t (with_use (Some o))
threads_gain _ o threads = threads

-- the same where a holder gives its reference up
abbrev pub tables_lose : Holder → List (List HandleSlot) → List (List HandleSlot)
tables_lose (InProcess p i) tables = with_slot tables p i freed_slot
tables_lose (InThread t i) tables = with_slot tables t i freed_slot
tables_lose _ tables = tables

abbrev pub threads_lose : Holder → List (Option ThreadRow) → List (Option ThreadRow)
threads_lose (Temp t) threads = with_row threads t (with_use None)
threads_lose _ threads = threads

-- an object's own reference: a thread's link to its process, or a session's to its server
abbrev pub link_of_row : Option ThreadRow → Option ObjNo
link_of_row None = None
link_of_row (Some row) = row.link

abbrev pub link_or : Option ObjNo → Option ObjNo → Option ObjNo
link_or None other = other
link_or (Some p) other = Some p

abbrev pub link_of : State → ObjNo → Option ObjNo
link_of S o = link_or (link_of_row (thread_of S o)) (server_of S.serving.servers o)

-- where an object dies as a reference is given up, its own link is taken off its row
abbrev pub objects_closed : Bool → ObjNo → List (Option ObjectRow) → List (Option ObjectRow)
objects_closed dying o objects = if dying then slice_set objects o.0 (dead_row (slice_index_or objects o.0 None)) else objects

abbrev pub threads_closed : Bool → ObjNo → List (Option ThreadRow) → List (Option ThreadRow)
threads_closed dying o threads = if dying then with_row threads o unlinked else threads

-- whoever closes it owes the close of that link, and then the sweep
abbrev pub owed_link : ObjNo → Option ObjNo → List Owed
owed_link o None = []
owed_link o (Some p) = Close (Link o) p ∷ []

abbrev pub owed_by_close : Bool → ObjNo → Option ObjNo → List Owed
owed_by_close dying o link = if dying then owed_link o link ++ Sweep o ∷ [] else []

-- what is told of a close
abbrev pub closed_effects : Bool → Holder → ObjNo → List Effect
closed_effects dying h o = if dying then Minus h o ∷ Dead o ∷ [] else Minus h o ∷ []

-- a thread whose instruction is over owes the close of its temporary reference
abbrev pub owed_use : ObjNo → Option ObjNo → List Owed
owed_use t None = []
owed_use t (Some o) = Close (Temp t) o ∷ []

-- the object that a thread's instruction uses
abbrev pub use_of_row : Option ThreadRow → Option ObjNo
use_of_row None = None
use_of_row (Some row) = row.uses

abbrev pub use_of : State → ObjNo → Option ObjNo
use_of S t = use_of_row (thread_of S t)

-- the state after one move in an action of thread t
abbrev pub moved : ObjNo → Move → State → State
moved t (Make kind name h) S = record S {
  references = record S.references {
    objects = with_object S.references.objects (next_object S).0 (new_object kind name S.references.made);
    made = S.references.made + 1;
    handles = tables_gain h (next_object S) S.references.handles;
    threads = threads_gain h (next_object S) S.references.threads;
  };
  serving = record S.serving { owned = owned_gain h (next_object S) S.serving.owned };
}
moved t (Gain h o) S = record S {
  references = record S.references {
    handles = tables_gain h o S.references.handles;
    threads = threads_gain h o S.references.threads;
  };
}
moved t (Lose h o) S = record S {
  references = record S.references {
    objects = objects_closed (dies S o) o S.references.objects;
    handles = tables_lose h S.references.handles;
    threads = threads_closed (dies S o) o (threads_lose h S.references.threads);
    owed = owing S.references.owed t (owed_by_close (dies S o) o (link_of S o));
  };
  serving = record S.serving {
    servers = servers_closed (dies S o) o (servers_lose h S.serving.servers);
    owned = owned_lose h o S.serving.owned;
  };
}
moved t (Find u o) S = record S { references = record S.references { threads = with_row S.references.threads u (with_found o (place_of (object_of S o))) } }
moved t (Open u o part) S = record S { references = record S.references { threads = with_row S.references.threads u (with_opened o part) } }
moved t (Miss u o) S = record S { references = record S.references { threads = with_row S.references.threads u with_missed } }
moved t (GoOn u part) S = record S { references = record S.references { threads = with_row S.references.threads u (with_part part) } }
moved t (Keep u number) S = record S { references = record S.references { threads = with_row S.references.threads u (with_kept number) } }
moved t (Write u x value) S = record S { references = record S.references { threads = with_row S.references.threads u (with_register x value) } }
moved t (WriteMessage u y number) S = record S { references = record S.references { threads = with_row S.references.threads u (with_message y number) } }
moved t (PutDown u) S = record S {
  references = record S.references {
    threads = with_row S.references.threads u (with_use None);
    owed = owing S.references.owed u (owed_use u (use_of S u));
  };
}
moved t (Advance u) S = record S {
  references = record S.references {
    threads = with_row S.references.threads u advanced;
    owed = owing S.references.owed u (owed_use u (use_of S u));
  };
}
moved t (Wait u what) S = record S { references = record S.references { threads = with_row S.references.threads u (with_waiting what) } }
moved t (Wake u) S = record S { references = record S.references { threads = with_row S.references.threads u (with_waiting waiting.Nothing) } }
moved t (SetPriority u priority) S = record S { references = record S.references { threads = with_row S.references.threads u (with_priority priority) } }
moved t (Nano m) S = record S { synchronization = record S.synchronization { nano = nano_moved m S.synchronization.nano } }
moved t (Deferred m) S = record S { synchronization = record S.synchronization { deferred = deferred_moved m S.synchronization.deferred } }
moved t (Requests m) S = record S { synchronization = record S.synchronization { requests = request_moved m S.synchronization.requests } }
moved t (Locks m) S = record S {
  synchronization = record S.synchronization {
    locks = lock_moved m S.synchronization.locks;
    mutexes = mutexes_moved m S.synchronization.mutexes;
  };
  references = record S.references { owed = owed_moved m S.references.owed };
}
moved t (Logons m) S = record S { synchronization = record S.synchronization { logons = logons_moved m S.synchronization.logons } }
moved t (Death m) S = record S {
  references = record S.references {
    threads = with_row S.references.threads (death_thread m) (death_row m);
    owed = death_owed t m S.references.owed;
  };
}
moved t (Servers m) S = record S { serving = record S.serving { servers = servers_moved m S.serving.owned S.serving.servers } }
moved t (Messages m) S = record S {
  serving = record S.serving { messages = messages_moved m S.serving.messages };
  references = record S.references { owed = message_owed t m S.serving.messages S.references.owed };
}
moved t (Fill p at length byte) S = record S { services = record S.services { memories = with_memory S.services.memories p (filled at length byte) } }
moved t (Copies m) S = record S {
  services = record S.services {
    memories = memories_copied m S.references.threads S.serving.messages S.services.memories;
  };
  serving = record S.serving { messages = messages_copied m S.references.threads S.serving.messages };
}
moved t (Pay (Close h o)) S = record S {
  references = record S.references {
    objects = objects_closed (dies S o) o S.references.objects;
    threads = threads_closed (dies S o) o S.references.threads;
    owed = owing (without_first S.references.owed t) t (owed_by_close (dies S o) o (link_of S o));
  };
  serving = record S.serving { servers = servers_closed (dies S o) o S.serving.servers };
}
moved t (Pay (Sweep o)) S = record S {
  references = record S.references {
    objects = slice_set S.references.objects o.0 None;
    threads = slice_set S.references.threads o.0 None;
    owed = without_first S.references.owed t;
  };
  synchronization = record S.synchronization { locks = locks_swept S.synchronization.locks o };
  serving = record S.serving { servers = servers_swept S.serving.servers o };
}

-- what a move tells, from the state before it
abbrev pub told : Move → State → List Effect
told (Make kind name h) S = Plus h (next_object S) ∷ []
told (Gain h o) S = Plus h o ∷ []
told (Lose h o) S = closed_effects (dies S o) h o
told (Find t o) S = Seek o ∷ []
told (Open t o part) S = Plus (Temp t) o ∷ []
told (Miss t o) S = Missed o ∷ []
told (GoOn t part) S = []
told (Keep t number) S = []
told (Write t x value) S = []
told (WriteMessage t y number) S = []
told (PutDown t) S = []
told (Advance t) S = []
told (Wait t what) S = []
told (Wake t) S = []
told (SetPriority t priority) S = []
told (Nano m) S = nano_told m
told (Deferred m) S = []
told (Requests m) S = request_told m
told (Locks m) S = lock_told m
told (Logons m) S = []
told (Death m) S = death_told m
told (Servers m) S = server_told m
told (Messages m) S = message_told m S.serving.messages
told (Fill p at length byte) S = []
told (Copies m) S = []
told (Pay (Close h o)) S = closed_effects (dies S o) h o
told (Pay (Sweep o)) S = Swept o ∷ []

-- the rows after several moves
abbrev pub perform : ObjNo → List Move → State → State
perform t [] S = S
perform t (m ∷ ms) S = perform t ms (moved t m S)

-- what several moves tell
abbrev pub tell : ObjNo → List Move → State → List Effect
tell t [] S = []
tell t (m ∷ ms) S = told m S ++ tell t ms (moved t m S)
