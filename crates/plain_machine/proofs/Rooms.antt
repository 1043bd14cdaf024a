-- Room for moves: each takes one away.
use Rattle.std.proofs.Common.{◌≡◌, ℕ, ◌+◌, ◌≤◌, List, [], length, get_or, arith, refl, ap, sym, ◌∙◌, subst, Bool, true, false, Option, Some, None}
use Rattle.std.specs.Prelude.{slice_set, option_map}
use Rattle.std.proofs.lemmas.List.{length-set}
use Rattle.sym_base.specs.declared.number.ObjNo.{ObjNo}
use Rattle.entry_log.specs.declared.effect.Holder.{Holder}
use Rattle.entry_log.specs.declared.effect.Holder.TheVariants as holder
use Rattle.state_rows.specs.declared.duty.Owed.TheVariants.{Close, Sweep}
use Rattle.state_rows.specs.declared.object.ObjectRow.{ObjectRow}
use Rattle.state_rows.specs.ObjectRows.{dead_row, place_of}
use Rattle.machine.specs.declared.death_move.DeathMove.{DeathMove}
use Rattle.machine.specs.declared.death_move.DeathMove.TheVariants.{Note, Doom, Clean, Bury}
use Rattle.machine.specs.declared.moves.Move.{Move}
use Rattle.machine.specs.declared.moves.Move.TheVariants.{Make, Gain, Lose, Find, Open, Miss, GoOn, Keep, Write, WriteMessage, PutDown, Advance, Wait, Wake, SetPriority, Nano, Deferred, Requests, Locks, Logons, Death, Servers, Messages, Copies, Fill, Pay}
use Rattle.state_rows.specs.declared.handle_slot.HandleSlot.{HandleSlot}
use Rattle.state_rows.specs.declared.thread.Waiting.TheVariants.{Nothing}
use Rattle.state_rows.specs.declared.thread.ThreadRow.{ThreadRow}
use Rattle.machine.specs.declared.state.State.{State}
use Rattle.sym_base.specs.declared.number.MsgNo.{MsgNo}
use Rattle.state_rows.specs.HandleSlots.{slot_at, fresh_slot}
use Rattle.state_rows.specs.declared.messages.MessageRows.{MessageRows}
use Rattle.state_rows.specs.MessageChanges.{next_of, taken}
use Rattle.machine.specs.declared.message_move.MessageMove.{MessageMove}
use Rattle.machine.specs.declared.message_move.MessageMove.TheVariants.{Accept, Take, Finish}
use Rattle.machine.specs.MessageMoves.{messages_moved}
use Rattle.machine.specs.DeathMoves.{death_row, death_thread}
use Rattle.machine.specs.Handles.{with_slot, taken_slot, freed_slot}
use Rattle.machine.specs.Moves.{moved, with_use, unlinked, with_found, with_opened, with_missed, with_kept, with_part, with_register, with_message, advanced, with_waiting, with_priority, tables_gain, tables_lose, threads_gain, threads_lose, threads_closed, objects_closed, next_object, new_object}
use Rattle.machine.specs.Kept.{dies}
use Rattle.machine.specs.Room.{HasRoom, IsSmallTable, AreSmallTables, MayAdvance}
use Rattle.machine.specs.Rows.{object_of, with_row}
use Rattle.move_laws.proofs.Lists.Sets.{set_keeps}
use Rattle.move_laws.proofs.Lives.NewObjects.{made-long, next_number_is}
use Rattle.move_laws.proofs.MoveLaws.CopyMoves.{copy_accepts}
use Rattle.move_laws.proofs.RowLaws.Tables.{taken_keeps}

-- a row may still go on by so many instructions
abbrev pub CanGo : ℕ → Option ThreadRow → Type 0
CanGo n x = (row : ThreadRow) → x ≡ Some row → row.next_instruction + n ≤ 4294967295

goes_less : (m n : ℕ) → m ≤ n → (x : Option ThreadRow) → CanGo n x → CanGo m x
goes_less m n le x h row is = let r = h row is in omega arith

-- a change of a row that goes on by one instruction at most
abbrev GoesOn : (ThreadRow → ThreadRow) → Type 0
GoesOn f = (row : ThreadRow) → (f row).next_instruction ≤ row.next_instruction + 1

map_goes : (f : ThreadRow → ThreadRow) → GoesOn f → (n : ℕ) (x : Option ThreadRow) → CanGo (n + 1) x → CanGo n (option_map f x)
map_goes f goes n None h row e = absurd (cc)
map_goes f goes n (Some old) h row e =
    let new : f old ≡ row = cc in
    let same : (f old).next_instruction ≡ row.next_instruction = ap (λ (r : ThreadRow). r.next_instruction) new in
    let a = goes old in
    let b = h old refl in
    omega arith

threads_less : (m n : ℕ) → m ≤ n → (threads : List (Option ThreadRow)) → MayAdvance n threads → MayAdvance m threads
threads_less m n le threads h k = goes_less m n le (get_or threads k None) (h k)

row_goes : (f : ThreadRow → ThreadRow) → GoesOn f → (n : ℕ) (threads : List (Option ThreadRow)) (t : ObjNo)
    → MayAdvance (n + 1) threads → MayAdvance n (with_row threads t f)
row_goes f goes n threads t h =
    set_keeps (CanGo n) threads t.0 (option_map f (get_or threads t.0 None)) None
    (map_goes f goes n (get_or threads t.0 None) (h t.0)) (threads_less n (n + 1) (omega arith) threads h)

-- a change of a slot that leaves its instance small
abbrev KeepsInstances : (HandleSlot → HandleSlot) → Type 0
KeepsInstances f = (slot : HandleSlot) → slot.instance ≤ 16383 → (f slot).instance ≤ 16383

taken_small : (o : ObjNo) → KeepsInstances (taken_slot o)
taken_small o slot few = (taken_keeps o (freed_slot slot) (record { few = few; counted = λ x e. absurd (cc) })).few

freed_small : KeepsInstances freed_slot
freed_small slot few = few

-- a change of a slot keeps tables small
small_table : (table : List HandleSlot) (i : ℕ) (f : HandleSlot → HandleSlot) → KeepsInstances f → IsSmallTable table
    → IsSmallTable (slice_set table i (f (slot_at table i)))
small_table table i f keeps h = record {
  size = let long = length-set table i (f (slot_at table i)) in let few = h.size in omega arith;
  instances =
      set_keeps (λ (slot : HandleSlot). slot.instance ≤ 16383) table i (f (slot_at table i)) fresh_slot
      (keeps (slot_at table i) (h.instances i)) h.instances;
}

small_tables : (tables : List (List HandleSlot)) (owner : ObjNo) (i : ℕ) (f : HandleSlot → HandleSlot)
    → KeepsInstances f → AreSmallTables tables → AreSmallTables (with_slot tables owner i f)
small_tables tables owner i f keeps h =
    set_keeps IsSmallTable tables owner.0 (slice_set (get_or tables owner.0 []) i
    (f (slot_at (get_or tables owner.0 []) i))) [] (small_table (get_or tables owner.0 []) i f keeps (h owner.0)) h

tables_gained : (h : Holder) (o : ObjNo) (tables : List (List HandleSlot)) → AreSmallTables tables → AreSmallTables (tables_gain h o tables)
tables_gained (holder.InProcess p i) o tables small = small_tables tables p i (taken_slot o) (taken_small o) small
tables_gained (holder.InThread t i) o tables small = small_tables tables t i (taken_slot o) (taken_small o) small
tables_gained _ o tables small = small

tables_lost : (h : Holder) (tables : List (List HandleSlot)) → AreSmallTables tables → AreSmallTables (tables_lose h tables)
tables_lost (holder.InProcess p i) tables small = small_tables tables p i freed_slot freed_small small
tables_lost (holder.InThread t i) tables small = small_tables tables t i freed_slot freed_small small
tables_lost _ tables small = small

-- changes of a row that stay at the instruction
abbrev StaysAt : (ThreadRow → ThreadRow) → Type 0
StaysAt f = (row : ThreadRow) → (f row).next_instruction ≡ row.next_instruction

map_stays : (f : ThreadRow → ThreadRow) → StaysAt f → (n : ℕ) (x : Option ThreadRow) → CanGo n x → CanGo n (option_map f x)
map_stays f stays n None h row e = absurd (cc)
map_stays f stays n (Some old) h row e =
    let new : f old ≡ row = cc in
    let same : (f old).next_instruction ≡ row.next_instruction = ap (λ (r : ThreadRow). r.next_instruction) new in
    let a = stays old in
    let b = h old refl in
    omega arith

row_stays : (f : ThreadRow → ThreadRow) → StaysAt f → (n : ℕ) (threads : List (Option ThreadRow)) (t : ObjNo)
    → MayAdvance n threads → MayAdvance n (with_row threads t f)
row_stays f stays n threads t h =
    set_keeps (CanGo n) threads t.0 (option_map f (get_or threads t.0 None)) None
    (map_stays f stays n (get_or threads t.0 None) (h t.0)) h

threads_gained : (h : Holder) (o : ObjNo) (n : ℕ) (threads : List (Option ThreadRow)) → MayAdvance n threads → MayAdvance n (threads_gain h o threads)
threads_gained (holder.Temp t) o n threads h = row_stays (with_use (Some o)) (λ row. refl) n threads t h
threads_gained _ o n threads h = h

threads_lost : (h : Holder) (n : ℕ) (threads : List (Option ThreadRow)) → MayAdvance n threads → MayAdvance n (threads_lose h threads)
threads_lost (holder.Temp t) n threads h = row_stays (with_use None) (λ row. refl) n threads t h
threads_lost _ n threads h = h

threads_unlinked : (last : Bool) (o : ObjNo) (n : ℕ) (threads : List (Option ThreadRow)) → MayAdvance n threads → MayAdvance n (threads_closed last o threads)
threads_unlinked true o n threads h = row_stays unlinked (λ row. refl) n threads o h
threads_unlinked false o n threads h = h

length_closed : (last : Bool) (o : ObjNo) (objects : List (Option ObjectRow)) → length (objects_closed last o objects) ≡ length objects
length_closed true o objects = length-set objects o.0 (dead_row (get_or objects o.0 None))
length_closed false o objects = refl

-- a move leaves the number of threads
long_row : (threads : List (Option ThreadRow)) (t : ObjNo) (f : ThreadRow → ThreadRow) → length (with_row threads t f) ≡ length threads
long_row threads t f = length-set threads t.0 (option_map f (get_or threads t.0 None))

long_gained : (h : Holder) (o : ObjNo) (threads : List (Option ThreadRow)) → length (threads_gain h o threads) ≡ length threads
long_gained (holder.Temp t) o threads = long_row threads t (with_use (Some o))
long_gained _ o threads = refl

long_lost : (h : Holder) (threads : List (Option ThreadRow)) → length (threads_lose h threads) ≡ length threads
long_lost (holder.Temp t) threads = long_row threads t (with_use None)
long_lost _ threads = refl

long_closed : (last : Bool) (o : ObjNo) (threads : List (Option ThreadRow)) → length (threads_closed last o threads) ≡ length threads
long_closed true o threads = long_row threads o unlinked
long_closed false o threads = refl

threads_long : (t : ObjNo) (m : Move) (S : State) → length (moved t m S).references.threads ≡ length S.references.threads
threads_long t (Make kind name h) S = long_gained h (next_object S) S.references.threads
threads_long t (Gain h o) S = long_gained h o S.references.threads
threads_long t (Lose h o) S = long_closed (dies S o) o (threads_lose h S.references.threads) ∙ long_lost h S.references.threads
threads_long t (Find u o) S = long_row S.references.threads u (with_found o (place_of (object_of S o)))
threads_long t (Open u o part) S = long_row S.references.threads u (with_opened o part)
threads_long t (Miss u o) S = long_row S.references.threads u with_missed
threads_long t (GoOn u part) S = long_row S.references.threads u (with_part part)
threads_long t (Keep u number) S = long_row S.references.threads u (with_kept number)
threads_long t (Write u x value) S = long_row S.references.threads u (with_register x value)
threads_long t (WriteMessage u y number) S = long_row S.references.threads u (with_message y number)
threads_long t (PutDown u) S = long_row S.references.threads u (with_use None)
threads_long t (Advance u) S = long_row S.references.threads u advanced
threads_long t (Wait u what) S = long_row S.references.threads u (with_waiting what)
threads_long t (Wake u) S = long_row S.references.threads u (with_waiting Nothing)
threads_long t (SetPriority u priority) S = long_row S.references.threads u (with_priority priority)
threads_long t (Nano m) S = refl
threads_long t (Deferred m) S = refl
threads_long t (Requests m) S = refl
threads_long t (Locks m) S = refl
threads_long t (Logons m) S = refl
threads_long t (Death m) S = long_row S.references.threads (death_thread m) (death_row m)
threads_long t (Servers m) S = refl
threads_long t (Messages m) S = refl
threads_long t (Fill p at long byte) S = refl
threads_long t (Copies m) S = refl
threads_long t (Pay (Close h o)) S = long_closed (dies S o) o S.references.threads
threads_long t (Pay (Sweep o)) S = length-set S.references.threads o.0 None

-- room for more is room for less
pub room_less : (m n : ℕ) (S : State) → m ≤ n → HasRoom n S → HasRoom m S
room_less m n S le room = record {
  objects = let few = room.objects in omega arith;
  made = let few = room.made in omega arith;
  threads = room.threads;
  instructions = threads_less m n le S.references.threads room.instructions;
  tables = room.tables;
  messages = let few = room.messages in omega arith;
}

-- one message more at most is accepted
accepts_one : (m : MessageMove) (r : MessageRows) → (messages_moved m r).accepted ≤ r.accepted + 1
accepts_one (Accept slots row) r = omega arith
accepts_one (Finish m code) r = omega arith
accepts_one (Take o) r = accepts_same (next_of r o)
  where
    accepts_same : (found : Option MsgNo) → (taken r found).accepted ≤ r.accepted + 1
    accepts_same None = omega arith
    accepts_same (Some m) = omega arith

-- room after a move that changes the rows of threads alone
with_threads : (n : ℕ) (S T : State) → T.references.objects ≡ S.references.objects
    → T.references.handles ≡ S.references.handles → T.references.made ≡ S.references.made
    → T.serving.messages.accepted ≤ S.serving.messages.accepted + 1
    → length T.references.threads ≡ length S.references.threads → MayAdvance n T.references.threads → HasRoom (n + 1) S
    → HasRoom n T
with_threads n S T same tables makings accepted long may room = record {
  objects = let few = room.objects in let made = ap (λ (xs : List (Option ObjectRow)). length xs) same in omega arith;
  made = let few = room.made in omega arith;
  threads = let few = room.threads in omega arith;
  instructions = may;
  tables = subst AreSmallTables (sym tables) room.tables;
  messages = let few = room.messages in omega arith;
}

-- a death stays at the instruction
death_stays : (m : DeathMove) → StaysAt (death_row m)
death_stays (Note t exit) row = refl
death_stays (Doom t exit) row = refl
death_stays (Clean t) row = refl
death_stays (Bury t) row = refl

-- a move takes one away
pub room_moved : (t : ObjNo) (m : Move) (n : ℕ) (S : State) → HasRoom (n + 1) S → HasRoom n (moved t m S)
room_moved t (Make kind name h) n S room = record {
  objects =
      let few = room.objects in
      let long = (made-long S.references.objects (next_object S).0 (new_object kind name S.references.made)
      (next_number_is S.mode.reuse S.references.objects).0).most in omega arith;
  made = let few = room.made in omega arith;
  threads = let few = room.threads in let long = threads_long t (Make kind name h) S in omega arith;
  instructions = threads_gained h (next_object S) n S.references.threads (threads_less n (n + 1) (omega arith) S.references.threads room.instructions);
  tables = tables_gained h (next_object S) S.references.handles room.tables;
  messages = let few = room.messages in omega arith;
}
room_moved t (Gain h o) n S room = record {
  objects = let few = room.objects in omega arith;
  made = let few = room.made in omega arith;
  threads = let few = room.threads in let long = threads_long t (Gain h o) S in omega arith;
  instructions = threads_gained h o n S.references.threads (threads_less n (n + 1) (omega arith) S.references.threads room.instructions);
  tables = tables_gained h o S.references.handles room.tables;
  messages = let few = room.messages in omega arith;
}
room_moved t (Lose h o) n S room = record {
  objects = let few = room.objects in let long = length_closed (dies S o) o S.references.objects in omega arith;
  made = let few = room.made in omega arith;
  threads = let few = room.threads in let long = threads_long t (Lose h o) S in omega arith;
  instructions =
      threads_unlinked (dies S o) o n (threads_lose h S.references.threads)
      (threads_lost h n S.references.threads (threads_less n (n + 1)
      (omega arith) S.references.threads room.instructions));
  tables = tables_lost h S.references.handles room.tables;
  messages = let few = room.messages in omega arith;
}
room_moved t (Find u o) n S room =
    with_threads n S (moved t (Find u o) S) refl refl refl (omega arith) (threads_long t (Find u o) S)
    (row_goes (with_found o (place_of (object_of S o))) (λ row. omega arith) n S.references.threads u room.instructions)
    room
room_moved t (Open u o part) n S room =
    with_threads n S (moved t (Open u o part) S) refl refl refl (omega arith) (threads_long t (Open u o part) S)
    (row_goes (with_opened o part) (λ row. omega arith) n S.references.threads u room.instructions) room
room_moved t (Miss u o) n S room =
    with_threads n S (moved t (Miss u o) S) refl refl refl (omega arith) (threads_long t (Miss u o) S)
    (row_goes with_missed (λ row. omega arith) n S.references.threads u room.instructions) room
room_moved t (GoOn u part) n S room =
    with_threads n S (moved t (GoOn u part) S) refl refl refl (omega arith) (threads_long t (GoOn u part) S)
    (row_goes (with_part part) (λ row. omega arith) n S.references.threads u room.instructions) room
room_moved t (Keep u number) n S room =
    with_threads n S (moved t (Keep u number) S) refl refl refl (omega arith) (threads_long t (Keep u number) S)
    (row_goes (with_kept number) (λ row. omega arith) n S.references.threads u room.instructions) room
room_moved t (Write u x value) n S room =
    with_threads n S (moved t (Write u x value) S) refl refl refl (omega arith) (threads_long t (Write u x value) S)
    (row_goes (with_register x value) (λ row. omega arith) n S.references.threads u room.instructions) room
room_moved t (WriteMessage u y number) n S room =
    with_threads n S (moved t (WriteMessage u y number) S) refl refl refl (omega arith)
    (threads_long t (WriteMessage u y number) S)
    (row_goes (with_message y number) (λ row. omega arith) n S.references.threads u room.instructions) room
room_moved t (PutDown u) n S room =
    with_threads n S (moved t (PutDown u) S) refl refl refl (omega arith) (threads_long t (PutDown u) S)
    (row_goes (with_use None) (λ row. omega arith) n S.references.threads u room.instructions) room
room_moved t (Advance u) n S room =
    with_threads n S (moved t (Advance u) S) refl refl refl (omega arith) (threads_long t (Advance u) S)
    (row_goes advanced (λ row. omega arith) n S.references.threads u room.instructions) room
room_moved t (Wait u what) n S room =
    with_threads n S (moved t (Wait u what) S) refl refl refl (omega arith) (threads_long t (Wait u what) S)
    (row_goes (with_waiting what) (λ row. omega arith) n S.references.threads u room.instructions) room
room_moved t (Wake u) n S room =
    with_threads n S (moved t (Wake u) S) refl refl refl (omega arith) (threads_long t (Wake u) S)
    (row_goes (with_waiting Nothing) (λ row. omega arith) n S.references.threads u room.instructions) room
room_moved t (SetPriority u priority) n S room =
    with_threads n S (moved t (SetPriority u priority) S) refl refl refl (omega arith)
    (threads_long t (SetPriority u priority) S)
    (row_goes (with_priority priority) (λ row. omega arith) n S.references.threads u room.instructions) room
room_moved t (Nano m) n S room =
    with_threads n S (moved t (Nano m) S) refl refl refl (omega arith) (threads_long t (Nano m) S)
    (threads_less n (n + 1) (omega arith) S.references.threads room.instructions) room
room_moved t (Deferred m) n S room =
    with_threads n S (moved t (Deferred m) S) refl refl refl (omega arith) (threads_long t (Deferred m) S)
    (threads_less n (n + 1) (omega arith) S.references.threads room.instructions) room
room_moved t (Requests m) n S room =
    with_threads n S (moved t (Requests m) S) refl refl refl (omega arith) (threads_long t (Requests m) S)
    (threads_less n (n + 1) (omega arith) S.references.threads room.instructions) room
room_moved t (Locks m) n S room =
    with_threads n S (moved t (Locks m) S) refl refl refl (omega arith) (threads_long t (Locks m) S)
    (threads_less n (n + 1) (omega arith) S.references.threads room.instructions) room
room_moved t (Logons m) n S room =
    with_threads n S (moved t (Logons m) S) refl refl refl (omega arith) (threads_long t (Logons m) S)
    (threads_less n (n + 1) (omega arith) S.references.threads room.instructions) room
room_moved t (Death m) n S room =
    with_threads n S (moved t (Death m) S) refl refl refl (omega arith) (threads_long t (Death m) S)
    (row_stays (death_row m) (death_stays m) n S.references.threads (death_thread m)
    (threads_less n (n + 1) (omega arith) S.references.threads room.instructions)) room
room_moved t (Servers m) n S room =
    with_threads n S (moved t (Servers m) S) refl refl refl (omega arith) (threads_long t (Servers m) S)
    (threads_less n (n + 1) (omega arith) S.references.threads room.instructions) room
room_moved t (Messages m) n S room =
    with_threads n S (moved t (Messages m) S) refl refl refl (accepts_one m S.serving.messages)
    (threads_long t (Messages m) S) (threads_less n (n + 1) (omega arith) S.references.threads room.instructions) room
room_moved t (Fill p at long byte) n S room =
    with_threads n S (moved t (Fill p at long byte) S) refl refl refl (omega arith)
    (threads_long t (Fill p at long byte) S)
    (threads_less n (n + 1) (omega arith) S.references.threads room.instructions) room
room_moved t (Copies m) n S room =
    with_threads n S (moved t (Copies m) S) refl refl refl
    (let same = copy_accepts m S.references.threads S.serving.messages in omega arith) (threads_long t (Copies m) S)
    (threads_less n (n + 1) (omega arith) S.references.threads room.instructions) room
room_moved t (Pay (Close h o)) n S room = record {
  objects = let few = room.objects in let long = length_closed (dies S o) o S.references.objects in omega arith;
  made = let few = room.made in omega arith;
  threads = let few = room.threads in let long = threads_long t (Pay (Close h o)) S in omega arith;
  instructions = threads_unlinked (dies S o) o n S.references.threads (threads_less n (n + 1) (omega arith) S.references.threads room.instructions);
  tables = room.tables;
  messages = let few = room.messages in omega arith;
}
room_moved t (Pay (Sweep o)) n S room = record {
  objects = let few = room.objects in let long = length-set S.references.objects o.0 None in omega arith;
  made = let few = room.made in omega arith;
  threads = let few = room.threads in let long = threads_long t (Pay (Sweep o)) S in omega arith;
  instructions =
      set_keeps (CanGo n) S.references.threads o.0 None None (λ row e. absurd (cc))
      (threads_less n (n + 1) (omega arith) S.references.threads room.instructions);
  tables = room.tables;
  messages = let few = room.messages in omega arith;
}
