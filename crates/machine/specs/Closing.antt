-- What closing a handle does, in whichever step.
use Rattle.std.specs.Prelude.{false, if◌then◌else◌, List, [], ◌∷◌, ◌++◌, Option, Some, None}
use Rattle.sym_base.specs.declared.number.ObjNo.{ObjNo}
use Rattle.entry_log.specs.declared.effect.Holder.{Holder}
use Rattle.state_rows.specs.ServerRows.{server_at, session_at, was_opened}
use Rattle.state_rows.specs.declared.servers.ServerRow.{ServerRow}
use Rattle.state_rows.specs.declared.messages.Way.TheVariants.{Disconnect}
use Rattle.machine.specs.declared.moves.Move.{Move}
use Rattle.machine.specs.declared.moves.Move.TheVariants.{Lose, Servers}
use Rattle.machine.specs.declared.server_move.ServerMove.TheVariants.{Close, SetOpen}
use Rattle.machine.specs.declared.state.State.{State}
use Rattle.machine.specs.Messaging.{disconnects, no_args, open_server, post}

-- the server of a session, where the session is open
abbrev pub connected_to : State → ObjNo → Option ObjNo
connected_to S s = if was_opened (session_at S.serving.servers s) then open_server S s else None

-- an open session isn't open any more, and a message tells its server so
abbrev pub disconnect : State → ObjNo → ObjNo → Option ObjNo → List Move
disconnect S t s None = []
disconnect S t s (Some o) = Servers (SetOpen s false) ∷ post S t s o disconnects no_args Disconnect

-- with its handle a server begins to close, and a session is disconnected
abbrev pub close_or : ObjNo → Option ServerRow → List Move → List Move
close_or o None other = other
close_or o (Some server) other = Servers (Close o) ∷ []

abbrev pub before_close : State → ObjNo → ObjNo → List Move
before_close S t o = close_or o (server_at S.serving.servers o) (disconnect S t o (connected_to S o))

-- then the handle goes, and its reference with it
abbrev pub close_moves : State → ObjNo → Holder → ObjNo → List Move
close_moves S t h o = before_close S t o ++ Lose h o ∷ []
