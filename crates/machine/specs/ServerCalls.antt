-- `server`, `receive`, `complete` and `function`: a server and its messages.
use Rattle.std.specs.Prelude.{ℕ, ℤ, pos, ◌==◌, ◌&&◌, Bool, false, if◌then◌else◌, slice_index, List, [], ◌∷◌, Option, Some, None}
use Rattle.sym_base.specs.declared.error.Error.TheVariants.{AlreadyExists, BadHandle, Overflow}
use Rattle.sym_base.specs.declared.kind.Kind.TheVariants as kind
use Rattle.sym_base.specs.declared.number.ObjNo.{ObjNo}
use Rattle.sym_base.specs.declared.number.MsgNo.{MsgNo}
use Rattle.sym_base.specs.declared.word.Word.TheVariants as word
use Rattle.entry_log.specs.declared.effect.Holder.TheVariants.{Own}
use Rattle.entry_log.specs.declared.step.Step.{Step}
use Rattle.entry_log.specs.declared.step.Step.TheVariants.{Of}
use Rattle.entry_log.specs.declared.step.Part.{Part}
use Rattle.entry_log.specs.declared.step.Part.TheVariants.{Look, Do, Done}
use Rattle.state_rows.specs.MessageChanges.{next_of}
use Rattle.state_rows.specs.MessageRows.{message_of}
use Rattle.state_rows.specs.ObjectRows.{is_taken}
use Rattle.state_rows.specs.ServerRows.{owner_of}
use Rattle.state_rows.specs.declared.messages.Message.{Message}
use Rattle.state_rows.specs.declared.thread.ThreadRow.{ThreadRow}
use Rattle.state_rows.specs.declared.thread.Waiting.TheVariants as waiting
use Rattle.machine.specs.declared.decision.Decision.{Decision}
use Rattle.machine.specs.declared.handles.NewHandle.{NewHandle}
use Rattle.machine.specs.declared.message_move.MessageMove.TheVariants.{Take}
use Rattle.machine.specs.declared.moves.Move.TheVariants.{Make, Gain, WriteMessage, Servers, Messages}
use Rattle.machine.specs.declared.server_move.ServerMove.TheVariants.{Start}
use Rattle.machine.specs.declared.state.State.{State}
use Rattle.machine.specs.Decide.{nothing, answer, refuse, wait_for, unless_holding, answer_handle}
use Rattle.machine.specs.Handles.{thread_handle}
use Rattle.machine.specs.Look.{look_kind}
use Rattle.machine.specs.Messaging.{finish}
use Rattle.machine.specs.Moves.{no_number_left, next_object}

-- handles full: an overflow; else a server is made, which the thread owns and has a handle of
abbrev pub make_server : ObjNo → ObjNo → List ℕ → ℕ → Option NewHandle → Decision
make_server t o name x None = refuse t (Of word.Server Do) Overflow
make_server t o name x (Some handle) =
    answer_handle t (Of word.Server Do) (Servers (Start o t) ∷ Make kind.Server name (Own t) ∷ Gain handle.holder o ∷ []) x handle.number

-- the name is taken: it exists already; objects full: an overflow
abbrev pub server_do : State → ObjNo → List ℕ → ℕ → Decision
server_do S t name x =
    if is_taken kind.Server name S.references.objects then refuse t (Of word.Server Do) AlreadyExists
    else if no_number_left S then refuse t (Of word.Server Do) Overflow
    else make_server t (next_object S) name x (thread_handle S t)

-- the first message that the server hasn't taken is taken, and its number goes to a register and is answered
abbrev pub take_message : ObjNo → Step → ObjNo → ℕ → MsgNo → Decision
take_message t step o y m = answer t step (Messages (Take o) ∷ WriteMessage t y m.0 ∷ []) (pos m.0)

-- the second step: where there is none the thread waits
abbrev pub receive_next : ObjNo → ObjNo → ℕ → Option MsgNo → Decision
receive_next t o y None = wait_for t (Of word.Receive Do) (waiting.Receive o)
receive_next t o y (Some m) = take_message t (Of word.Receive Do) o y m

abbrev pub receive_do : State → ObjNo → ℕ → Option ObjNo → Decision
receive_do S t y None = nothing
receive_do S t y (Some o) = unless_holding S t (Of word.Receive Do) (receive_next t o y (next_of S.serving.messages o))

-- the last step: a message came
abbrev pub receive_came : ObjNo → ObjNo → ℕ → Option MsgNo → Decision
receive_came t o y None = nothing
receive_came t o y (Some m) = take_message t (Of word.Receive Done) o y m

abbrev pub receive_done : State → ObjNo → ℕ → Option ObjNo → Decision
receive_done S t y None = nothing
receive_done S t y (Some o) = receive_came t o y (next_of S.serving.messages o)

abbrev pub receive_step : State → ObjNo → ThreadRow → ℕ → ℕ → Option Part → Decision
receive_step S t row x y None = unless_holding S t (Of word.Receive Look) (look_kind S t row kind.Server word.Receive x)
receive_step S t row x y (Some Do) = receive_do S t y row.uses
receive_step S t row x y (Some part) = receive_done S t y row.uses

-- whether a message was taken, and its server is a thread's
abbrev pub is_owner : ObjNo → Option ObjNo → Bool
is_owner t None = false
is_owner t (Some u) = u.0 == t.0

abbrev pub taken_by : State → ObjNo → Option Message → Option Message
taken_by S t None = None
taken_by S t (Some message) = if message.row.taken && is_owner t (owner_of S.serving.servers message.row.server) then Some message else None

-- the message whose number a register has: one that a server of the thread took
abbrev pub message_at : State → ObjNo → ThreadRow → ℕ → Option Message
message_at S t row y = taken_by S t (message_of S.serving.messages (record { 0 = slice_index row.messages y }))

-- no such message: a bad handle; else it is finished with the code
abbrev pub complete_message : State → ObjNo → ℤ → Option Message → Decision
complete_message S t code None = refuse t (Of word.Complete Do) BadHandle
complete_message S t code (Some message) = answer t (Of word.Complete Do) (finish S message code) (pos 0)

abbrev pub complete_do : State → ObjNo → ThreadRow → ℕ → ℤ → Decision
complete_do S t row y code = complete_message S t code (message_at S t row y)

-- no such message: a bad handle; else its function
abbrev pub function_of : ObjNo → Option Message → Decision
function_of t None = refuse t (Of word.Function Do) BadHandle
function_of t (Some message) = answer t (Of word.Function Do) [] message.row.function

abbrev pub function_do : State → ObjNo → ThreadRow → ℕ → Decision
function_do S t row y = function_of t (message_at S t row y)
