-- When a move in the tables of servers, sessions and messages can be made.
use Rattle.std.specs.Prelude.{◌≡◌, ◌<◌, false, length, All}
use Rattle.sym_base.specs.declared.kind.Slots.{Slots}
use Rattle.sym_base.specs.declared.number.ObjNo.{ObjNo}
use Rattle.state_rows.specs.declared.messages.MsgRow.{MsgRow}
use Rattle.state_rows.specs.MessageRows.{IsOutstanding, most_messages}
use Rattle.state_rows.specs.ServerChanges.{IsAlone}
use Rattle.state_rows.specs.ServerRows.{IsServer, IsSession, is_closing}
use Rattle.messages.specs.Calls.{is_busy}
use Rattle.machine.specs.declared.message_move.MessageMove.{MessageMove}
use Rattle.machine.specs.declared.message_move.MessageMove.TheVariants.{Accept, Take, Finish}
use Rattle.machine.specs.declared.server_move.ServerMove.{ServerMove}
use Rattle.machine.specs.declared.server_move.ServerMove.TheVariants.{Start, Join, Close, CloseAll, SetOpen, End}
use Rattle.machine.specs.declared.state.State.{State}
use Rattle.machine.specs.ServerMoves.{owned_by}
use Rattle.kernel_tables.specs.Referred.{HasPlaces, IsReferred}

-- an object that can become a server or a session: its number is the table's, and it is linked to nothing
abbrev pub CanServe : ServerMove → State → Type 0
CanServe (Start o u) S = (o.0 < length S.serving.servers.servers) × IsAlone S.serving.servers o
CanServe (Join s o slots u) S =
    (s.0 < length S.serving.servers.servers) × IsAlone S.serving.servers s × IsServer S.serving.servers o
    × (is_closing S.serving.servers o ≡ false) × IsReferred S o
CanServe (Close o) S = IsServer S.serving.servers o
CanServe (CloseAll u) S = All (IsServer S.serving.servers) (owned_by S.serving.owned u)
CanServe (SetOpen s to) S = IsSession S.serving.servers s
CanServe (End o) S = Unit {0}

-- a message that can be accepted: its server is one of the table's objects, its session and its client are referred to and are two, and there is
-- room for it, a slot where it takes one, and a number
pub record CanAccept (S : State) (slots : Slots) (row : MsgRow) : Type 0 where
  pub server : row.server.0 < S.serving.messages.objects
  pub untaken : row.taken ≡ false
  pub session : IsReferred S row.session
  pub client : IsReferred S row.client
  pub room : length S.serving.messages.outstanding < most_messages
  pub slot : is_busy S.serving.messages slots row ≡ false
  pub number : S.serving.messages.accepted < 4294967295

-- who is finished is outstanding, and there are places for what the thread owes then
abbrev pub CanMessage : ObjNo → MessageMove → State → Type 0
CanMessage t (Accept slots row) S = CanAccept S slots row
CanMessage t (Take o) S = o.0 < S.serving.messages.objects
CanMessage t (Finish m code) S = IsOutstanding S.serving.messages m × HasPlaces 2 S t
