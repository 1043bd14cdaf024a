-- `connect`, `send` and `call`: sessions with a server, and messages over them.
use Rattle.std.specs.Prelude.{ℕ, ℤ, pos, true, if◌then◌else◌, List, [], ◌∷◌, Option, Some, None}
use Rattle.std.specs.Ordering.{int_eq}
use Rattle.sym_base.specs.ErrorCode.{error_code}
use Rattle.sym_base.specs.declared.error.Error.TheVariants.{InUse, Overflow, ServerTerminated, ServerBusy}
use Rattle.sym_base.specs.declared.kind.Arg.{Arg}
use Rattle.sym_base.specs.declared.kind.Kind.TheVariants as kind
use Rattle.sym_base.specs.declared.kind.Slots.{Slots}
use Rattle.sym_base.specs.declared.number.ObjNo.{ObjNo}
use Rattle.sym_base.specs.declared.word.Word.TheVariants as word
use Rattle.script_types.specs.declared.instruction.Args.{Args}
use Rattle.entry_log.specs.declared.step.Step.TheVariants.{Of}
use Rattle.entry_log.specs.declared.step.Part.{Part}
use Rattle.entry_log.specs.declared.step.Part.TheVariants.{Seek, Look, Make as AtMake, Send, Do, Done}
use Rattle.state_rows.specs.MessageRows.{is_full}
use Rattle.state_rows.specs.Requests.{is_pending, reply_of}
use Rattle.state_rows.specs.ServerRows.{server_at}
use Rattle.state_rows.specs.declared.messages.Way.TheVariants.{Async, Sync}
use Rattle.state_rows.specs.declared.servers.ServerRow.{ServerRow}
use Rattle.state_rows.specs.declared.thread.ThreadRow.{ThreadRow}
use Rattle.state_rows.specs.declared.thread.Waiting.TheVariants as waiting
use Rattle.machine.specs.declared.decision.Decision.{Decision}
use Rattle.machine.specs.declared.handles.NewHandle.{NewHandle}
use Rattle.machine.specs.declared.moves.Move.TheVariants.{Make, Lose, GoOn, Keep, PutDown, Wait, Requests, Servers}
use Rattle.machine.specs.declared.request_move.RequestMove.TheVariants.{SetPending}
use Rattle.machine.specs.declared.server_move.ServerMove.TheVariants.{Join, SetOpen}
use Rattle.machine.specs.declared.state.State.{State}
use Rattle.machine.specs.Decide.{nothing, answer, refuse, unless_holding, answer_handle}
use Rattle.machine.specs.Find.{seek, return_to}
use Rattle.machine.specs.Handles.{holder_of, thread_handle, object_at}
use Rattle.machine.specs.Look.{look_kind}
use Rattle.machine.specs.Messaging.{connects, no_args, slots_of, open_server, server_to_open, post}
use Rattle.machine.specs.Moves.{no_number_left, next_object}

-- the four arguments of an instruction
abbrev pub args_of : Args → List Arg
args_of args = args.0 ∷ args.1 ∷ args.2 ∷ args.3 ∷ []

-- handles full: an overflow; else a session is made with its handle and its link, and the server isn't used any more
abbrev pub make_session : ObjNo → ObjNo → Slots → ObjNo → Option NewHandle → Decision
make_session t o slots s None = refuse t (Of word.Connect AtMake) Overflow
make_session t o slots s (Some handle) = record {
  step = Of word.Connect AtMake;
  moves = Make kind.Session [] handle.holder ∷ Servers (Join s o slots t) ∷ Keep t handle.number ∷ PutDown t ∷ GoOn t Send ∷ [];
  answer = None;
}

-- the third step: a closing server is terminated; objects full: an overflow
abbrev pub connect_to : State → ObjNo → Slots → ObjNo → Option ServerRow → Decision
connect_to S t slots o None = nothing
connect_to S t slots o (Some server) =
    if server.is_closing then refuse t (Of word.Connect AtMake) ServerTerminated
    else if no_number_left S then refuse t (Of word.Connect AtMake) Overflow
    else make_session t o slots (next_object S) (thread_handle S t)

abbrev pub connect_make : State → ObjNo → Slots → Option ObjNo → Decision
connect_make S t slots None = nothing
connect_make S t slots (Some o) = connect_to S t slots o (server_at S.serving.servers o)

-- the connection fails: the session's handle goes, and the code is answered
abbrev pub fail_connect : ObjNo → ThreadRow → Part → ObjNo → ℤ → Decision
fail_connect t row part s code = answer t (Of word.Connect part) (Lose (holder_of t row row.found) s ∷ []) code

-- the fourth step: the message that connects is sent, and the session is open; a server that is closing is terminated. A session is opened once
abbrev pub send_connect : State → ObjNo → ThreadRow → ObjNo → Option ObjNo → Decision
send_connect S t row s None = fail_connect t row Send s (error_code ServerTerminated)
send_connect S t row s (Some o) = record {
  step = Of word.Connect Send;
  moves = GoOn t Done ∷ Servers (SetOpen s true) ∷ Wait t waiting.Reply ∷ post S t s o connects no_args Sync;
  answer = None;
}

abbrev pub connect_send : State → ObjNo → ThreadRow → Option ObjNo → Decision
connect_send S t row None = nothing
connect_send S t row (Some s) = unless_holding S t (Of word.Connect Send) (send_connect S t row s (server_to_open S s))

-- the last step: the server accepted, and the handle is answered, or the connection fails
abbrev pub end_connect : ObjNo → ThreadRow → ℕ → ObjNo → ℤ → Decision
end_connect t row x s code =
    if int_eq code (pos 0) then answer_handle t (Of word.Connect Done) [] x row.found else fail_connect t row Done s code

abbrev pub connect_done : State → ObjNo → ThreadRow → ℕ → Option ObjNo → Decision
connect_done S t row x None = nothing
connect_done S t row x (Some s) = end_connect t row x s (reply_of S.synchronization.requests t)

-- the session that the steps of a connect made
abbrev pub session_made : State → ObjNo → ThreadRow → Option ObjNo
session_made S t row = object_at S t row row.found

abbrev pub connect_step : State → ObjNo → ThreadRow → List ℕ → Slots → ℕ → Option Part → Decision
connect_step S t row name slots x None = unless_holding S t (Of word.Connect Seek) (seek S t word.Connect kind.Server name)
connect_step S t row name slots x (Some AtMake) = connect_make S t slots row.uses
connect_step S t row name slots x (Some Send) = connect_send S t row (session_made S t row)
connect_step S t row name slots x (Some part) = connect_done S t row x (session_made S t row)

abbrev pub connect_return : State → ObjNo → ThreadRow → Decision
connect_return S t row = return_to S t row word.Connect AtMake

-- a message without waiting: a server that is closing is terminated; all slots used: it is busy; else the status is pending
abbrev pub send_to : State → ObjNo → ObjNo → ℤ → ℕ → List Arg → Option ObjNo → Decision
send_to S t s function y args None = refuse t (Of word.Send Do) ServerTerminated
send_to S t s function y args (Some o) =
    if is_full S.serving.messages s (slots_of S s) then refuse t (Of word.Send Do) ServerBusy
    else answer t (Of word.Send Do) (GoOn t Done ∷ Requests (SetPending t y) ∷ post S t s o function args (Async y)) (pos 0)

-- the second step. No status comes to be pending between the look and this
abbrev pub send_do : State → ObjNo → ℤ → ℕ → List Arg → Option ObjNo → Decision
send_do S t function y args None = nothing
send_do S t function y args (Some s) = if is_pending S.synchronization.requests t y then nothing else send_to S t s function y args (open_server S s)

abbrev pub send_step : State → ObjNo → ThreadRow → ℕ → ℕ → ℕ → Args → Option Part → Decision
send_step S t row x function y args None =
    if is_pending S.synchronization.requests t y then refuse t (Of word.Send Look) InUse else look_kind S t row kind.Session word.Send x
send_step S t row x function y args (Some Done) = nothing
send_step S t row x function y args (Some part) = send_do S t (pos function) y (args_of args) row.uses

-- a message whose end the client waits for
abbrev pub call_to : State → ObjNo → ObjNo → ℤ → List Arg → Option ObjNo → Decision
call_to S t s function args None = refuse t (Of word.Call Do) ServerTerminated
call_to S t s function args (Some o) = record {
  step = Of word.Call Do;
  moves = GoOn t Done ∷ Wait t waiting.Reply ∷ post S t s o function args Sync;
  answer = None;
}

abbrev pub call_do : State → ObjNo → ℤ → List Arg → Option ObjNo → Decision
call_do S t function args None = nothing
call_do S t function args (Some s) = unless_holding S t (Of word.Call Do) (call_to S t s function args (open_server S s))

abbrev pub call_step : State → ObjNo → ThreadRow → ℕ → ℕ → Args → Option Part → Decision
call_step S t row x function args None = unless_holding S t (Of word.Call Look) (look_kind S t row kind.Session word.Call x)
call_step S t row x function args (Some Do) = call_do S t (pos function) (args_of args) row.uses
call_step S t row x function args (Some part) = answer t (Of word.Call Done) [] (reply_of S.synchronization.requests t)
