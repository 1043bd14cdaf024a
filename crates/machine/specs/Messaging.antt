-- How messages are sent and finished, in whichever step.
use Rattle.std.specs.Prelude.{ℤ, pos, negsuc, ◌==◌, ◌&&◌, not, Bool, false, if◌then◌else◌, List, [], ◌∷◌, ◌++◌, Option, Some, None}
use Rattle.std.specs.Ordering.{int_eq}
use Rattle.sym_base.specs.declared.number.ObjNo.{ObjNo}
use Rattle.sym_base.specs.declared.kind.Arg.{Arg}
use Rattle.sym_base.specs.declared.kind.Arg.TheVariants.{Number}
use Rattle.sym_base.specs.declared.kind.Slots.{Slots}
use Rattle.sym_base.specs.declared.kind.Slots.TheVariants.{Pool}
use Rattle.state_rows.specs.declared.messages.Message.{Message}
use Rattle.state_rows.specs.declared.messages.Way.{Way}
use Rattle.state_rows.specs.declared.messages.Way.TheVariants.{Async, Sync, Disconnect}
use Rattle.state_rows.specs.declared.servers.SessionRow.{SessionRow}
use Rattle.state_rows.specs.declared.thread.Waiting.{Waiting}
use Rattle.state_rows.specs.declared.thread.Waiting.TheVariants.{Receive}
use Rattle.state_rows.specs.declared.thread.ThreadRow.{ThreadRow}
use Rattle.state_rows.specs.ServerRows.{owner_of, session_at, server_of, accepts, is_to_open}
use Rattle.state_rows.specs.MessageChanges.{new_row}
use Rattle.machine.specs.declared.message_move.MessageMove.TheVariants.{Accept, Finish}
use Rattle.machine.specs.declared.moves.Move.{Move}
use Rattle.machine.specs.declared.moves.Move.TheVariants.{Wake, Requests, Servers, Messages}
use Rattle.machine.specs.declared.request_move.RequestMove.TheVariants.{Signal, Reply}
use Rattle.machine.specs.declared.server_move.ServerMove.TheVariants.{SetOpen}
use Rattle.machine.specs.declared.state.State.{State}
use Rattle.machine.specs.Bodies.{end_wait}
use Rattle.machine.specs.Rows.{thread_of}
use Rattle.machine.specs.ThreadCalls.{is_live}

-- the functions of the messages that connect and disconnect a session, and their arguments
abbrev pub connects : ℤ
connects = negsuc 0

abbrev pub disconnects : ℤ
disconnects = negsuc 1

abbrev pub no_args : List Arg
no_args = Number (pos 0) ∷ Number (pos 0) ∷ Number (pos 0) ∷ Number (pos 0) ∷ []

-- the slots of a session
abbrev pub slots_of_row : Option SessionRow → Slots
slots_of_row None = Pool
slots_of_row (Some row) = row.slots

abbrev pub slots_of : State → ObjNo → Slots
slots_of S s = slots_of_row (session_at S.serving.servers s)

-- the server that accepts messages of a session: the one that the session is linked to, unless it is closing
abbrev pub open_server : State → ObjNo → Option ObjNo
open_server S s = if accepts S.serving.servers (server_of S.serving.servers s) then server_of S.serving.servers s else None

-- the same of a session that is to be opened
abbrev pub server_to_open : State → ObjNo → Option ObjNo
server_to_open S s = if is_to_open (session_at S.serving.servers s) then open_server S s else None

-- a thread that waits for a message of this server waits no longer
abbrev pub is_receiving : ObjNo → Waiting → Bool
is_receiving o (Receive v) = v.0 == o.0
is_receiving o _ = false

abbrev pub wake_row : ObjNo → ObjNo → Option ThreadRow → List Move
wake_row o u None = []
wake_row o u (Some row) = if is_receiving o row.waiting then Wake u ∷ [] else []

abbrev pub wake_receiver : State → ObjNo → Option ObjNo → List Move
wake_receiver S o None = []
wake_receiver S o (Some u) = wake_row o u (thread_of S u)

-- a message of a client is sent over a session to a server, whose owner may wait for it
abbrev pub post : State → ObjNo → ObjNo → ObjNo → ℤ → List Arg → Way → List Move
post S t s o function args way = Messages (Accept (slots_of S s) (new_row s o t function args way)) ∷ wake_receiver S o (owner_of S.serving.servers o)

-- where a message that connects is finished with a failure its session is open no more
abbrev pub is_refused : Message → ℤ → Bool
is_refused message code = int_eq message.row.function connects && not (int_eq code (pos 0))

abbrev pub close_refused : Message → ℤ → List Move
close_refused message code = if is_refused message code then Servers (SetOpen message.row.session false) ∷ [] else []

-- the client, if it is live, is told of it as the message was sent: by its status, or by the reply that it waits for
abbrev pub reply : State → ObjNo → ThreadRow → ℤ → Way → List Move
reply S u row code (Async s) = Requests (Signal u s code) ∷ end_wait S u s (Some row)
reply S u row code Sync = Requests (Reply u code) ∷ Wake u ∷ []
reply S u row code Disconnect = []

abbrev pub reply_to : State → ObjNo → ℤ → Way → Option ThreadRow → List Move
reply_to S u code way None = []
reply_to S u code way (Some row) = if is_live row.stage then reply S u row code way else []

-- a message is finished with a code
abbrev pub finish : State → Message → ℤ → List Move
finish S message code =
    Messages (Finish message.number code) ∷ close_refused message code ++ reply_to S message.row.client code message.row.way (thread_of S message.row.client)
