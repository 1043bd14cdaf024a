-- What holds of servers, sessions and messages in every state that a legal history leaves.
use Rattle.std.specs.Prelude.{◌≡◌, ℕ, ◌+◌, ◌-◌, ◌*◌, ◌<◌, ◌≤◌, ◌==◌, ◌&&◌, Bool, true, false, if◌then◌else◌, List, [], ◌∷◌, length, is_some, Option, Some, None, Contains}
use Rattle.std.specs.List.{slice_index_or}
use Rattle.sym_base.specs.declared.limits.TheConstants.Limits.{OBJECTS, THREADS, THREAD_INSTRUCTIONS}
use Rattle.sym_base.specs.declared.number.ObjNo.{ObjNo}
use Rattle.entry_log.specs.declared.step.Part.{Part}
use Rattle.entry_log.specs.declared.step.Part.TheVariants as part
use Rattle.state_rows.specs.declared.locks.LockRows.{LockRows}
use Rattle.state_rows.specs.declared.object.ObjectRow.{ObjectRow}
use Rattle.state_rows.specs.declared.messages.Message.{Message}
use Rattle.state_rows.specs.declared.messages.MessageRows.{MessageRows}
use Rattle.state_rows.specs.declared.messages.Way.{Way}
use Rattle.state_rows.specs.declared.messages.Way.TheVariants.{Async, Sync, Disconnect}
use Rattle.state_rows.specs.declared.servers.ServerRow.{ServerRow}
use Rattle.state_rows.specs.declared.servers.ServerRows.{ServerRows}
use Rattle.state_rows.specs.declared.servers.SessionRow.{SessionRow}
use Rattle.state_rows.specs.declared.thread.Stage.TheVariants.{Live}
use Rattle.state_rows.specs.declared.thread.Waiting.TheVariants as waiting
use Rattle.state_rows.specs.declared.thread.ThreadRow.{ThreadRow}
use Rattle.state_rows.specs.Locks.{owner_at}
use Rattle.state_rows.specs.ServerRows.{IsServer, IsSession, server_at, session_at, linked_at, server_of, is_closing, is_to_open, was_opened, holds}
use Rattle.machine.specs.References.{total, mutex_names}
use Rattle.machine.specs.ServerMoves.{owned_by}
use Rattle.machine.specs.ThreadCalls.{is_live}

-- how often a thread owns a server
abbrev pub times_owned : List (List ObjNo) → ObjNo → ObjNo → ℕ
times_owned owned t o = total (mutex_names o) (owned_by owned t)

-- a server that a thread made
pub record IsServerOf (r : ServerRows) (t o : ObjNo) : Type 0 where
  pub row : ServerRow
  pub is : server_at r o ≡ Some row
  pub owner : row.owner.0 ≡ t.0

-- an object that has no link: it is no thread and no session
abbrev pub IsUnlinked : List (Option ThreadRow) → ServerRows → ObjNo → Type 0
IsUnlinked threads r o = (slice_index_or threads o.0 None ≡ None) × (session_at r o ≡ None)

-- whether an object isn't there, or is dead
abbrev pub is_over : Option ObjectRow → Bool
is_over None = true
is_over (Some row) = row.dead

-- The rows of servers and sessions: one for each object that may be made; each owned server is one that its owner made, once; one whose
-- owner isn't live is closing; a thread that has given up all owns none; servers have no link, and no thread holds one as a mutex; a session is
-- linked to a server, is no thread, and no thread's link leads to it; a dead one is linked to none; whoever is listed as linked to a server is; and
-- a number without an object is no session, and none is linked to it.
pub record AreServers (spent : ThreadRow → Bool) (objects : List (Option ObjectRow)) (threads : List (Option ThreadRow)) (locks : LockRows)
    (owned : List (List ObjNo)) (r : ServerRows) : Type 0 where
  pub servers_sized : length r.servers ≡ OBJECTS
  pub sessions_sized : length r.sessions ≡ OBJECTS
  pub linked_sized : length r.linked ≡ OBJECTS
  pub owned_sized : length owned ≡ length threads
  pub owners : (t o : ObjNo) → 0 < times_owned owned t o → IsServerOf r t o
  pub once : (t o : ObjNo) → times_owned owned t o ≤ 1
  pub closing : (k : ℕ) (row : ThreadRow) (o : ObjNo) → slice_index_or threads k None ≡ Some row
      → is_live row.stage ≡ false → 0 < times_owned owned (record { 0 = k }) o → is_closing r o ≡ true
  pub none : (k : ℕ) (row : ThreadRow) → slice_index_or threads k None ≡ Some row → spent row ≡ true → slice_index_or owned k [] ≡ []
  pub unlinked : (o : ObjNo) → IsServer r o → IsUnlinked threads r o
  pub unlocked : (o : ObjNo) → IsServer r o → owner_at locks o ≡ None
  pub sessions : (s o : ObjNo) → server_of r s ≡ Some o → IsServer r o
  pub sessions_apart : (s : ObjNo) → is_some (slice_index_or threads s.0 None) ≡ true → session_at r s ≡ None
  pub links_apart : (k : ℕ) (row : ThreadRow) (p : ObjNo) → slice_index_or threads k None ≡ Some row → row.link ≡ Some p → session_at r p ≡ None
  pub sessions_over : (s : ObjNo) → is_over (slice_index_or objects s.0 None) ≡ true → server_of r s ≡ None
  pub linked : (s o : ObjNo) → holds s (linked_at r o) ≡ true → server_of r s ≡ Some o
  pub sessions_made : (s : ObjNo) → slice_index_or objects s.0 None ≡ None → session_at r s ≡ None
  pub linked_made : (o : ObjNo) → slice_index_or objects o.0 None ≡ None → linked_at r o ≡ []

-- 1 where a message is one that a client sent with a status, and where it is one whose end it waits for
abbrev pub is_sent : ObjNo → ℕ → ObjNo → Way → Bool
is_sent u s client (Async status) = client.0 == u.0 && status == s
is_sent u s client _ = false

abbrev pub sent_names : ObjNo → ℕ → Message → ℕ
sent_names u s message = if is_sent u s message.row.client message.row.way then 1 else 0

abbrev pub is_called : ObjNo → ObjNo → Way → Bool
is_called u client Sync = client.0 == u.0
is_called u client _ = false

abbrev pub call_names : ObjNo → Message → ℕ
call_names u message = if is_called u message.row.client message.row.way then 1 else 0

-- how many outstanding messages a thread sent with a status, and of how many it waits for the end
abbrev pub times_sent : List Message → ObjNo → ℕ → ℕ
times_sent outstanding u s = total (sent_names u s) outstanding

abbrev pub times_called : List Message → ObjNo → ℕ
times_called outstanding u = total (call_names u) outstanding

-- each number is above a number and below those behind it
abbrev pub AreRising : List Message → Type 0
AreRising [] = Unit {0}
AreRising (message ∷ rest) = ((other : Message) → Contains rest other → message.number.0 < other.number.0) × AreRising rest

-- 1 for a message that disconnects a session
abbrev pub disconnect_bit_of : Way → ℕ
disconnect_bit_of Disconnect = 1
disconnect_bit_of _ = 0

abbrev pub disconnects_of : ObjNo → Message → ℕ
disconnects_of s message = if message.row.session.0 == s.0 then disconnect_bit_of message.row.way else 0

-- 1 for a session that was opened and not closed since, and for one that is to be opened or was
abbrev pub open_bit : Option SessionRow → ℕ
open_bit row = if was_opened row then 1 else 0

abbrev pub unclosed_bit : Option SessionRow → ℕ
unclosed_bit row = if is_to_open row then 1 else open_bit row

-- how often a session is to be closed, or was and its server isn't told so yet: once at most, since it is opened once
abbrev pub times_closed : ServerRows → List Message → ObjNo → ℕ
times_closed r outstanding s = unclosed_bit (session_at r s) + total (disconnects_of s) outstanding

-- 1 for a step that is the last of its instruction
abbrev pub begun : Option Part → ℕ
begun (Some part.Done) = 1
begun _ = 0

-- how many messages the instructions may send that a thread hasn't begun the last step of: each one, and for a session that it opens
-- another, which disconnects it
abbrev pub numbers_left : Option ThreadRow → ℕ
numbers_left None = 0
numbers_left (Some row) = 2 * (THREAD_INSTRUCTIONS - (row.next_instruction + begun row.part))

-- how many messages were accepted, or may be: by the close of a session that is open, and by the instructions left
abbrev pub numbers_used : List (Option ThreadRow) → ServerRows → MessageRows → ℕ
numbers_used threads r messages = messages.accepted + total open_bit r.sessions + total numbers_left threads

-- 1 for a thread that is there
abbrev pub thread_bit : Option ThreadRow → ℕ
thread_bit row = if is_some row then 1 else 0

-- The rows of messages: the numbers rise and were given; each session is one, and each client is there; no two messages have one status of a
-- client, and that is awaited; a client has one message at most whose end it waits for, and where it is live it waits for a reply; a session is
-- closed once at most; and no more messages are accepted than the instructions of all threads send.
pub record AreMessages (IsAwaited : ObjNo → ℕ → Type 0) (threads : List (Option ThreadRow)) (servers : ServerRows) (r : MessageRows) : Type 0 where
  pub objects : r.objects ≡ OBJECTS
  pub rising : AreRising r.outstanding
  pub given : (message : Message) → Contains r.outstanding message → message.number.0 ≤ r.accepted
  pub sessions : (message : Message) → Contains r.outstanding message → IsSession servers message.row.session
  pub clients : (message : Message) → Contains r.outstanding message → is_some (slice_index_or threads message.row.client.0 None) ≡ true
  pub sent : (u : ObjNo) (s : ℕ) → times_sent r.outstanding u s ≤ 1
  pub awaited : (u : ObjNo) (s : ℕ) → 0 < times_sent r.outstanding u s → IsAwaited u s
  pub called : (u : ObjNo) → times_called r.outstanding u ≤ 1
  pub replies : (u : ObjNo) (row : ThreadRow) → 0 < times_called r.outstanding u
      → slice_index_or threads u.0 None ≡ Some row → row.stage ≡ Live → row.waiting ≡ waiting.Reply
  pub closed : (s : ObjNo) → times_closed servers r.outstanding s ≤ 1
  pub threads_few : total thread_bit threads ≤ THREADS
  pub numbered : numbers_used threads servers r ≤ 2 * THREAD_INSTRUCTIONS * THREADS
