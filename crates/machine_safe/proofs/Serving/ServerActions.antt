-- What an action of a thread does to servers and messages: by its decision it sends or finishes a message, makes, closes or stops a server, joins a
-- session, or leaves all that.
use Rattle.entry_log.specs.declared.effect.Holder.{Holder}
use Rattle.entry_log.specs.declared.effect.Holder.TheVariants.{Own}
use Rattle.entry_log.specs.declared.effect.StatusNo.{StatusNo}
use Rattle.machine.specs.Messaging.{finish, open_server, slots_of}
use Rattle.machine.specs.Moves.{next_object, tell}
use Rattle.machine.specs.References.{total}
use Rattle.machine.specs.declared.decision.Decision.{Decision}
use Rattle.machine.specs.declared.message_move.MessageMove.TheVariants.{Accept}
use Rattle.machine.specs.declared.moves.Move.{Move}
use Rattle.machine.specs.declared.moves.Move.TheVariants.{Advance, Gain, Lose, Make, Messages, Servers}
use Rattle.machine.specs.declared.server_move.ServerMove.TheVariants.{Start, Join, Close, End}
use Rattle.machine.specs.declared.state.State.{State}
use Rattle.machine_laws.proofs.Fitting.Regular.{serving_bit}
use Rattle.machine_safe.proofs.Serving.KeptServers.{changing-none, changing_bit, lost-none, lost_bit, message-none, message_bit, detach-none, detach_bit}
use Rattle.machine_safe.specs.SafeMessages.{code_by}
use Rattle.machine_safe.specs.Sent.{accepts_by, status_by}
use Rattle.machine_safe.specs.Served.{makes_session}
use Rattle.script_types.specs.declared.instruction.Instr.{Instr}
use Rattle.state_rows.specs.MessageRows.{message_of, is_async, is_full}
use Rattle.state_rows.specs.ServerRows.{is_closing, owner_of, server_at, server_of, session_at}
use Rattle.state_rows.specs.declared.thread.Stage.TheVariants.{Live}
use Rattle.state_rows.specs.declared.messages.Message.{Message}
use Rattle.state_rows.specs.declared.messages.MsgRow.{MsgRow}
use Rattle.state_rows.specs.declared.messages.Way.{Way}
use Rattle.state_rows.specs.declared.messages.Way.TheVariants.{Async, Disconnect, Sync}
use Rattle.state_rows.specs.declared.servers.ServerRow.{ServerRow}
use Rattle.state_rows.specs.declared.servers.SessionRow.{SessionRow}
use Rattle.std.proofs.Common.{Bool, List, None, Option, Some, [], arith, false, true, ℕ, ℤ, ◌++◌, ◌<◌, ◌∷◌, ◌≡◌, pos, ◌⊎◌}
use Rattle.sym_base.specs.declared.kind.Slots.{Slots}
use Rattle.sym_base.specs.declared.number.ObjNo.{ObjNo}
use Rattle.sym_base.specs.declared.kind.Kind.TheVariants as kind
use Rattle.entry_log.specs.declared.effect.StatusNo.TheVariants as status
use Rattle.machine.specs.Rows.{thread_of}
use Rattle.machine_safe.specs.Slotted.{slots_of_connect}
use Rattle.state_rows.specs.declared.thread.ThreadRow.{ThreadRow}
use Rattle.sym_base.specs.ErrorCode.{error_code}
use Rattle.sym_base.specs.declared.error.Error.TheVariants.{ServerBusy, ServerTerminated}
use Rattle.machine.specs.EntryWords.{is_handle, is_send, makes_server}
use Rattle.entry_log.specs.declared.entry.Entry.{Entry}
use Rattle.machine.specs.Task.{instruction}
use Rattle.machine_safe.specs.Slotted.{looked_in}
use Rattle.script_types.specs.declared.instruction.Instr.TheVariants as instr
use Rattle.script_types.specs.declared.script.Script.{Script}
use Rattle.std.specs.Prelude.{is_some}
use Rattle.machine.specs.WellFormed.{IsLiveThread}

-- what stands behind the moves of a call that answers
abbrev pub behind : Bool → ObjNo → List Move
behind true t = Advance t ∷ []
behind false t = []

-- the status of a way
abbrev pub status_of_way : Way → Option StatusNo
status_of_way (Async s) = Some (status.Async s)
status_of_way Sync = Some status.Sync
status_of_way Disconnect = None

-- a handle goes only of what is no server
abbrev pub ClosesOthers : State → Decision → Type 0
ClosesOthers S d = (v : ObjNo) → 0 < total (lost_bit v) d.moves → server_at S.serving.servers v ≡ None

-- a session is detached only from a server that is closing
abbrev pub Detaches : State → Decision → Type 0
Detaches S d = (v : ObjNo) → 0 < total (detach_bit v) d.moves → is_closing S.serving.servers v ≡ true

-- whether an instruction is a `send`
abbrev pub at_send : Option Instr → Bool
at_send (Some (instr.Send x function y args)) = true
at_send _ = false

-- a thread that uses an object at a `send` looked for that
abbrev pub Looked : Script → List Entry → State → Type 0
Looked script before S =
    (u o : ObjNo) (row : ThreadRow) → thread_of S u ≡ Some row → at_send (instruction script row) ≡ true → row.uses
    ≡ Some o → looked_in before u ≡ Some o

-- the session that a thread's `send` is over
pub record IsSendOver (S : State) (t : ObjNo) (at : Option Instr) (s : ObjNo) : Type 0 where
  pub here : at_send at ≡ true
  pub row : ThreadRow
  pub is : thread_of S t ≡ Some row
  pub live : row.stage ≡ Live
  pub begun : is_some row.part ≡ true
  pub uses : row.uses ≡ Some s

-- what a thread uses at a `send` is a session
abbrev pub SendsOver : Script → State → Type 0
SendsOver script S =
    (u o : ObjNo) (row : ThreadRow) → thread_of S u ≡ Some row → row.stage ≡ Live → at_send (instruction script row) ≡ true
    → is_some row.part ≡ true → row.uses ≡ Some o → (session : SessionRow) × (session_at S.serving.servers o ≡ Some session)

-- why a `send` is refused: its server is closing, or it isn't and all slots are used
abbrev pub RefusedBy : State → ObjNo → Option ℤ → Type 0
RefusedBy S s answer =
    ((open_server S s ≡ None) × (answer ≡ Some (error_code ServerTerminated)))
    ⊎ ((o : ObjNo) × (open_server S s ≡ Some o) × (is_full S.serving.messages s (slots_of S s) ≡ true)
    × (answer ≡ Some (error_code ServerBusy)))

pub record IsRefusal (S : State) (t : ObjNo) (at : Option Instr) (d : Decision) : Type 0 where
  pub session : ObjNo
  pub over : IsSendOver S t at session
  pub by : RefusedBy S session d.answer

-- neither servers nor messages change
pub record IsKeeping (S : State) (t : ObjNo) (at : Option Instr) (d : Decision) : Type 0 where
  pub changing : total changing_bit d.moves ≡ 0
  pub still : total message_bit d.moves ≡ 0
  pub closed : ClosesOthers S d
  pub detaches : Detaches S d
  pub send : is_send d.step ≡ true → IsRefusal S t at d

-- a `send` has a slot left, and is answered 0
pub record IsAnswered (S : State) (t : ObjNo) (at : Option Instr) (s : ObjNo) (slots : Slots) (d : Decision) : Type 0 where
  pub over : IsSendOver S t at s
  pub answer : d.answer ≡ Some (pos 0)
  pub free : is_full S.serving.messages s slots ≡ false

-- thread t, at an instruction, sends a message
pub record IsSending (S : State) (t : ObjNo) (at : Option Instr) (d : Decision) : Type 0 where
  pub front : List Move
  pub back : List Move
  pub slots : Slots
  pub row : MsgRow
  pub moves : d.moves ≡ front ++ Messages (Accept slots row) ∷ back
  pub silent : tell t front S ≡ []
  pub quiet : total serving_bit front ≡ 0
  pub changing : total changing_bit back ≡ 0
  pub still : total message_bit back ≡ 0
  pub client : row.client ≡ t
  pub live : is_some (status_of_way row.way) ≡ true → IsLiveThread S.references.threads t
  pub linked : server_of S.serving.servers row.session ≡ Some row.server
  pub accepting : is_closing S.serving.servers row.server ≡ false
  pub way : status_by d.step at ≡ status_of_way row.way
  pub named : accepts_by d.step (status_of_way row.way) ≡ true
  pub closed : ClosesOthers S d
  pub detached : (v : ObjNo) → total (detach_bit v) d.moves ≡ 0
  pub of_session : slots ≡ slots_of S row.session
  pub asks : is_send d.step ≡ is_async row.way
  pub send : is_send d.step ≡ true → IsAnswered S t at row.session slots d

-- it finishes one
pub record IsFinishing (S : State) (t : ObjNo) (at : Option Instr) (d : Decision) : Type 0 where
  pub message : Message
  pub code : ℤ
  pub answers : Bool
  pub there : message_of S.serving.messages message.number ≡ Some message
  pub moves : d.moves ≡ finish S message code ++ behind answers t
  pub owner : owner_of S.serving.servers message.row.server ≡ Some t
  pub cause : code_by d.step (is_closing S.serving.servers message.row.server) at ≡ Some code
  pub unsent : is_send d.step ≡ false

-- it makes a server
pub record IsMaking (S : State) (t : ObjNo) (d : Decision) : Type 0 where
  pub name : List ℕ
  pub holder : Holder
  pub back : List Move
  pub moves : d.moves ≡ Servers (Start (next_object S) t) ∷ Make kind.Server name (Own t) ∷ Gain holder (next_object S) ∷ back
  pub quiet : total serving_bit back ≡ 0
  pub makes : makes_server d.step ≡ true
  pub unsent : is_send d.step ≡ false

-- it joins a session at a server
pub record IsJoining (S : State) (t : ObjNo) (at : Option Instr) (d : Decision) : Type 0 where
  pub server : ObjNo
  pub slots : Slots
  pub holder : Holder
  pub connects : slots_of_connect at ≡ Some slots
  pub back : List Move
  pub moves : d.moves ≡ Make kind.Session [] holder ∷ Servers (Join (next_object S) server slots t) ∷ back
  pub quiet : total serving_bit back ≡ 0
  pub joins : makes_session d.step ≡ true
  pub makes : makes_server d.step ≡ false
  pub unsent : is_send d.step ≡ false

-- it closes the handle of a server
pub record IsClosing (S : State) (t : ObjNo) (d : Decision) : Type 0 where
  pub server : ObjNo
  pub row : ServerRow
  pub is : server_at S.serving.servers server ≡ Some row
  pub holder : Holder
  pub handle : is_handle holder ≡ true
  pub answers : Bool
  pub moves : d.moves ≡ Servers (Close server) ∷ Lose holder server ∷ behind answers t
  pub makes : makes_server d.step ≡ false
  pub unsent : is_send d.step ≡ false

-- it stops one
pub record IsStopping (S : State) (t : ObjNo) (d : Decision) : Type 0 where
  pub server : ObjNo
  pub moves : d.moves ≡ Servers (End server) ∷ Lose (Own t) server ∷ []
  pub makes : makes_server d.step ≡ false
  pub unsent : is_send d.step ≡ false

-- whatever holds of each kind of action
pub record OfEach (S : State) (t : ObjNo) (at : Option Instr) (P : Decision → Type 0) : Type 0 where
  pub keeps : (d : Decision) → IsKeeping S t at d → P d
  pub sends : (d : Decision) → IsSending S t at d → P d
  pub finishes : (d : Decision) → IsFinishing S t at d → P d
  pub makes : (d : Decision) → IsMaking S t d → P d
  pub joins : (d : Decision) → IsJoining S t at d → P d
  pub closes : (d : Decision) → IsClosing S t d → P d
  pub stops : (d : Decision) → IsStopping S t d → P d

-- moves that serve nobody leave servers and messages
pub calm : {S : State} {t : ObjNo} {at : Option Instr} {P : Decision → Type 0} → OfEach S t at P → (d : Decision)
    → total serving_bit d.moves ≡ 0 → is_send d.step ≡ false → P d
calm each d quiet unsent = each.keeps d (record {
  changing = changing-none d.moves quiet;
  still = message-none d.moves quiet;
  closed = λ v some. let none = lost-none v d.moves quiet in absurd (omega arith);
  detaches = λ v some. let none = detach-none v d.moves quiet in absurd (omega arith);
  send = λ sends. absurd (cc);
})
