-- When a move in the rows of servers, sessions and messages fits the state.
use Rattle.std.specs.Prelude.{◌≡◌, ◌≢◌, ◌*◌, ◌<◌, ◌≤◌, ◌&&◌, true, false, is_some, length, [], Some, None, IsSome}
use Rattle.sym_base.specs.declared.limits.TheConstants.Limits.{OBJECTS, THREADS, THREAD_INSTRUCTIONS}
use Rattle.sym_base.specs.declared.number.ObjNo.{ObjNo}
use Rattle.state_rows.specs.declared.messages.MsgRow.{MsgRow}
use Rattle.state_rows.specs.declared.messages.Way.{Way}
use Rattle.state_rows.specs.declared.messages.Way.TheVariants.{Async, Sync, Disconnect}
use Rattle.state_rows.specs.declared.thread.Stage.TheVariants.{Live}
use Rattle.state_rows.specs.declared.thread.Waiting.TheVariants as waiting
use Rattle.state_rows.specs.declared.thread.ThreadRow.{ThreadRow}
use Rattle.state_rows.specs.MessageRows.{message_of, messages_at, is_async, is_full}
use Rattle.state_rows.specs.ServerRows.{IsServer, IsSession, session_at, linked_at, is_closing, is_to_open}
use Rattle.state_rows.specs.ServerChanges.{IsAlone}
use Rattle.machine.specs.declared.message_move.MessageMove.{MessageMove}
use Rattle.machine.specs.declared.message_move.MessageMove.TheVariants.{Accept, Take, Finish}
use Rattle.machine.specs.declared.server_move.ServerMove.{ServerMove}
use Rattle.machine.specs.declared.server_move.ServerMove.TheVariants.{Start, Join, Close, CloseAll, SetOpen, End}
use Rattle.machine.specs.declared.state.State.{State}
use Rattle.machine.specs.Moves.{next_object}
use Rattle.machine.specs.References.{count_of, total, owed_names, server_names, thread_names}
use Rattle.machine.specs.Rows.{object_of, thread_of}
use Rattle.machine.specs.Serving.{times_sent, times_called, times_closed, numbers_used}
use Rattle.machine.specs.WellFormed.{IsAlive, IsLiveThread, IsUntold}

-- a session is closed, and no outstanding message tells its server so
abbrev pub IsClosed : State → ObjNo → Type 0
IsClosed S s = times_closed S.serving.servers S.serving.messages.outstanding s ≡ 0

-- a further message may be accepted, or a further session opened that a message disconnects
abbrev pub HasNumber : State → Type 0
HasNumber S = numbers_used S.references.threads S.serving.servers S.serving.messages < 2 * THREAD_INSTRUCTIONS * THREADS

-- a thread awaits no end of a message, unless it is dead
abbrev pub IsUncalled : State → ObjNo → Type 0
IsUncalled S u = (row : ThreadRow) → thread_of S u ≡ Some row → row.stage ≡ Live → times_called S.serving.messages.outstanding u ≡ 0

-- an object that may become a server of a thread: the one that is made next, and the thread is live
pub record MayStartServer (S : State) (o u : ObjNo) : Type 0 where
  pub next : o ≡ next_object S
  pub room : (next_object S).0 < OBJECTS
  pub owner : IsLiveThread S.references.threads u

-- an object that may become a session at a server: it is alive, no thread, no session yet, and no thread, server, session, message or duty
-- refers to it; and the server is another object, is referred to and isn't closing
pub record MayJoinServer (S : State) (s o : ObjNo) : Type 0 where
  pub alive : IsAlive (object_of S s)
  pub thread : thread_of S s ≡ None
  pub unlinked : total (thread_names s) S.references.threads ≡ 0
  pub other : s.0 ≢ o.0
  pub fresh : session_at S.serving.servers s ≡ None
  pub alone : IsAlone S.serving.servers s
  pub unnamed : server_names S s ≡ 0
  pub unowed : total (total (owed_names s)) S.references.owed ≡ 0
  pub server : IsServer S.serving.servers o
  pub accepts : is_closing S.serving.servers o ≡ false
  pub counted : 0 < count_of S o

-- a server that may end: it is closing, and no message and no session of it is left
pub record MayEnd (S : State) (o : ObjNo) : Type 0 where
  pub closing : is_closing S.serving.servers o ≡ true
  pub finished : messages_at S.serving.messages o ≡ []
  pub detached : linked_at S.serving.servers o ≡ []

-- a move in the rows of servers and sessions fits the state
abbrev pub FitsServers : ServerMove → State → Type 0
FitsServers (Start o u) S = MayStartServer S o u
FitsServers (Join s o slots u) S = MayJoinServer S s o
FitsServers (Close o) S = IsServer S.serving.servers o
FitsServers (CloseAll u) S = Unit {0}
FitsServers (SetOpen s true) S = (is_to_open (session_at S.serving.servers s) ≡ true) × HasNumber S
FitsServers (SetOpen s false) S = IsSession S.serving.servers s
FitsServers (End o) S = MayEnd S o

-- how a message may be sent over a session: with a status that is awaited and that nothing else has; with a wait for its end, and for no other's; or as
-- the session is closed
abbrev pub FitsWay : ObjNo → ObjNo → Way → State → Type 0
FitsWay u session (Async s) S = IsUntold S.synchronization.requests S.synchronization.logons u s × (times_sent S.serving.messages.outstanding u s ≡ 0)
FitsWay u session Sync S = (times_called S.serving.messages.outstanding u ≡ 0) × ((row : ThreadRow) → thread_of S u ≡ Some row → row.waiting ≡ waiting.Reply)
FitsWay u session Disconnect S = IsClosed S session

-- a message that may be accepted: something refers to its session and its client, they are a session and a thread, its server is an object, and a number
-- is left for it
pub record MayAccept (S : State) (row : MsgRow) : Type 0 where
  pub session : 0 < count_of S row.session
  pub known : IsSession S.serving.servers row.session
  pub client : 0 < count_of S row.client
  pub thread : is_some (thread_of S row.client) ≡ true
  pub server : row.server.0 < OBJECTS
  pub args : length row.args ≡ 4
  pub untaken : row.taken ≡ false
  pub way : FitsWay row.client row.session row.way S
  pub number : HasNumber S

-- a move in the rows of messages fits the state: who is finished is outstanding
abbrev pub FitsMessages : MessageMove → State → Type 0
FitsMessages (Accept slots row) S = MayAccept S row
FitsMessages (Take o) S = o.0 < OBJECTS
FitsMessages (Finish m code) S = IsSome (message_of S.serving.messages m)

-- where a message takes a slot one is left of those that its session may use
abbrev pub HasSlot : MessageMove → State → Type 0
HasSlot (Accept slots row) S = (is_async row.way && is_full S.serving.messages row.session slots) ≡ false
HasSlot m S = Unit {0}
