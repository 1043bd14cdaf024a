-- What a step of an instruction may come to for its thread: it answers, or goes on to another step, or does nothing, since something isn't there.
use Rattle.state_rows.specs.declared.object.ObjectRow.{ObjectRow}
use Rattle.state_rows.specs.declared.requests.RequestRows.{RequestRows}
use Rattle.machine.specs.declared.moves.Move.TheVariants.{Gain}
use Rattle.machine_safe.proofs.Serving.Proper.{AreProper, IsOther, is_kind, message_awaited, receiving, resting, stepping}
use Rattle.machine.specs.Handles.{object_at}
use Rattle.machine.specs.Look.{of_kind}
use Rattle.state_rows.specs.ServerRows.{is_closing, owner_of}
use Rattle.state_rows.specs.MessageChanges.{next_of}
use Rattle.std.proofs.Common.{[], Bool, List, None, Option, Some, false, get_or, true, ℕ, ℤ, ◌∷◌, ◌≡◌, ◌⊎◌, ◌<◌}
use Rattle.std.specs.Prelude.{is_some}
use Rattle.script_types.specs.declared.instruction.Instr.{Instr}
use Rattle.script_types.specs.declared.script.Script.{Script}
use Rattle.machine.specs.declared.state.State.{State}
use Rattle.state_rows.specs.declared.thread.ThreadRow.{ThreadRow}
use Rattle.sym_base.specs.declared.number.ObjNo.{ObjNo}
use Rattle.entry_log.specs.declared.step.Part.{Part}
use Rattle.script_types.specs.declared.instruction.Instr.TheVariants as instr
use Rattle.entry_log.specs.declared.step.Part.TheVariants as part
use Rattle.machine.specs.Rows.{thread_of}
use Rattle.machine.specs.declared.decision.Decision.{Decision}
use Rattle.machine_laws.proofs.Fitting.Regular.{acts, going_bit}
use Rattle.machine.specs.Decide.{nothing}
use Rattle.machine.specs.Moves.{with_use, with_part, perform}
use Rattle.sym_base.specs.declared.kind.Kind.TheVariants as kind
use Rattle.machine.specs.References.{total}
use Rattle.state_rows.specs.ServerRows.{server_at}
use Rattle.state_rows.specs.declared.servers.ServerRow.{ServerRow}
use Rattle.state_rows.specs.Requests.{is_pending}
use Rattle.machine.specs.SessionCalls.{session_made}
use Rattle.machine.specs.declared.moves.Move.TheVariants.{GoOn}
use Rattle.entry_log.specs.declared.effect.Holder.TheVariants.{Temp}
use Rattle.machine_safe.proofs.Serving.Connecting.{keeps_handle}
use Rattle.state_rows.specs.Nano.{want_of}
use Rattle.state_rows.specs.Requests.{request_at}
use Rattle.state_rows.specs.DeclaredCalls.{dfc_named}
use Rattle.sym_base.specs.declared.kind.Kind.{Kind}

-- the later steps that an instruction has
abbrev pub has_step : Instr → Part → Bool
has_step (instr.Open kind name x) part.Return = true
has_step (instr.Open kind name x) part.Do = true
has_step (instr.Dup x y) part.Do = true
has_step (instr.DupLocal x y) part.Do = true
has_step (instr.Lock x) part.Do = true
has_step (instr.Lock x) part.Done = true
has_step (instr.Unlock x) part.Do = true
has_step (instr.Wait x) part.Do = true
has_step (instr.Wait x) part.Done = true
has_step (instr.Signal x) part.Do = true
has_step (instr.Flock f) part.Done = true
has_step instr.Fswait part.Done = true
has_step (instr.Suspend x) part.Do = true
has_step (instr.Resume x) part.Do = true
has_step (instr.Priority x priority) part.Do = true
has_step instr.WaitAny part.Done = true
has_step (instr.WaitFor s) part.Done = true
has_step (instr.Kill x reason) part.Do = true
has_step (instr.Terminate x reason) part.Do = true
has_step (instr.Panic x category reason) part.Do = true
has_step (instr.ExitType x) part.Do = true
has_step (instr.Logon x s) part.Do = true
has_step (instr.Connect name slots x) part.Return = true
has_step (instr.Connect name slots x) part.Make = true
has_step (instr.Connect name slots x) part.Send = true
has_step (instr.Connect name slots x) part.Done = true
has_step (instr.Send x function y args) part.Do = true
has_step (instr.Call x function args) part.Do = true
has_step (instr.Call x function args) part.Done = true
has_step (instr.Receive x y) part.Do = true
has_step (instr.Receive x y) part.Done = true
has_step (instr.Read y arg offset length at) part.Piece = true
has_step (instr.Write y arg offset length from) part.Piece = true
has_step i p = false

-- the steps that use an object
abbrev pub uses_at : Instr → Part → Bool
uses_at (instr.Connect name slots x) part.Make = true
uses_at (instr.Connect name slots x) p = false
uses_at (instr.Receive x y) part.Done = true
uses_at i part.Do = has_step i part.Do
uses_at i p = false

abbrev pub needs_use : Option Instr → Option Part → Bool
needs_use (Some i) (Some p) = uses_at i p
needs_use at p = false

-- the status that a step sets
abbrev pub sets_status : Instr → Option Part → Option ℕ
sets_status (instr.Send x function y args) (Some part.Do) = Some y
sets_status (instr.Logon x s) (Some part.Do) = Some s
sets_status i p = None

-- the steps that lock what they use, connect to it, take a message of it, and take what their thread wanted
abbrev pub locks_at : Instr → Option Part → Bool
locks_at (instr.Lock x) (Some part.Do) = true
locks_at i p = false

abbrev pub makes_at : Instr → Option Part → Bool
makes_at (instr.Connect name slots x) (Some part.Make) = true
makes_at i p = false

abbrev pub takes_at : Instr → Option Part → Bool
takes_at (instr.Receive x y) (Some part.Done) = true
takes_at i p = false

abbrev pub wants_at : Instr → Option Part → Bool
wants_at (instr.Flock f) (Some part.Done) = true
wants_at i p = false

abbrev pub logs_at : Instr → Option Part → Bool
logs_at (instr.Logon x s) (Some part.Do) = true
logs_at i p = false

-- the kind of what a step uses, and of what a return found
abbrev pub kind_used : Instr → Option Part → Option Kind
kind_used (instr.Lock x) (Some part.Do) = Some kind.Mutex
kind_used (instr.Open k name x) (Some part.Do) = Some k
kind_used (instr.Logon x s) (Some part.Do) = Some kind.Thread
kind_used (instr.Send x function y args) (Some part.Do) = Some kind.Session
kind_used (instr.Connect name slots x) (Some part.Make) = Some kind.Server
kind_used i p = None

abbrev pub kind_found : Instr → Option Part → Option Kind
kind_found (instr.Connect name slots x) (Some part.Return) = Some kind.Server
kind_found (instr.Open k name x) (Some part.Return) = Some k
kind_found i p = None

-- the kind of what an `open` gives a handle of
abbrev pub opening : Instr → Option Part → Option Kind
opening (instr.Open k name x) (Some part.Do) = Some k
opening i p = None

-- whether a step needs more than an object that it uses
abbrev pub asks : Instr → Option Part → Bool
asks (instr.Lock x) (Some part.Do) = true
asks (instr.Flock f) (Some part.Done) = true
asks (instr.Logon x s) (Some part.Do) = true
asks (instr.Connect name slots x) (Some part.Return) = true
asks (instr.Connect name slots x) (Some part.Make) = true
asks (instr.Send x function y args) (Some part.Do) = true
asks (instr.Open kind name x) (Some part.Return) = true
asks (instr.Open kind name x) (Some part.Do) = true
asks (instr.Receive x y) (Some part.Do) = true
asks (instr.Receive x y) (Some part.Done) = true
asks i p = false

-- the name of the call that an instruction queues
abbrev pub call_name : Instr → Option (List ℕ)
call_name (instr.Queue name) = Some name
call_name i = None

-- why a step does nothing: something that it needs isn't there
pub data Lacks (script : Script) (S : State) (t : ObjNo) (old : ThreadRow) (i : Instr) (p : Option Part) : Type 0 where
  unused : needs_use (Some i) p ≡ true → old.uses ≡ None → Lacks script S t old i p
  rowless : (u : ObjNo) → logs_at i p ≡ true → old.uses ≡ Some u → thread_of S u ≡ None → Lacks script S t old i p
  pending : (s : ℕ) → sets_status i p ≡ Some s → is_pending S.synchronization.requests t s ≡ true → Lacks script S t old i p
  served : (o : ObjNo) (row : ServerRow) → locks_at i p ≡ true → old.uses ≡ Some o → server_at S.serving.servers o ≡ Some row → Lacks script S t old i p
  serverless : (o : ObjNo) → makes_at i p ≡ true → old.uses ≡ Some o → server_at S.serving.servers o ≡ None → Lacks script S t old i p
  unkept : keeps_handle (Some i) p ≡ true → session_made S t old ≡ None → Lacks script S t old i p
  empty : (o : ObjNo) → takes_at i p ≡ true → old.uses ≡ Some o → next_of S.serving.messages o ≡ None → Lacks script S t old i p
  unwanted : wants_at i p ≡ true → want_of S.synchronization.nano t ≡ None → Lacks script S t old i p
  unnamed : (name : List ℕ) → call_name i ≡ Some name → dfc_named script name ≡ None → Lacks script S t old i p

-- an object that is there, and is of a kind
pub record IsOfKind (objects : List (Option ObjectRow)) (k : Kind) (o : ObjNo) : Type 0 where
  pub there : is_some (get_or objects o.0 None) ≡ true
  pub kind : (row : ObjectRow) → get_or objects o.0 None ≡ Some row → is_kind k row.kind ≡ true

-- the object of a place that was made, which is of a kind as long as it stands at its number: another one may have that since
pub record WasOfKind (count : ℕ) (objects : List (Option ObjectRow)) (k : Kind) (place : ℕ) (o : ObjNo) : Type 0 where
  pub made : place < count
  pub kind : (row : ObjectRow) → get_or objects o.0 None ≡ Some row → row.place ≡ place → is_kind k row.kind ≡ true

abbrev pub FoundOf : State → Kind → ℕ → ObjNo → Type 0
FoundOf S k place o = WasOfKind S.references.made S.references.objects k place o

-- a status that isn't pending, and of which no device has a request
pub record IsUnset (r : RequestRows) (t : ObjNo) (s : ℕ) : Type 0 where
  pub done : is_pending r t s ≡ false
  pub free : (d : ℕ) → request_at r d ≡ Some (record { thread = t; status = s }) → ⊥

-- a thread waits for a message of a server, or there is one that isn't taken, and the server isn't closing
abbrev pub HasCome : State → ThreadRow → ObjNo → Type 0
HasCome S row o = (message_awaited row.waiting ≡ Some o) ⊎ ((is_some (next_of S.serving.messages o) ≡ true) × (is_closing S.serving.servers o ≡ false))

-- what a step asks of the state: the status that it sets isn't pending, its thread wants a fast mutex, what it uses or found is of its kind, its thread
-- owns the server whose message it takes, and the message for which it waited is there
pub record Met (S : State) (t : ObjNo) (row : ThreadRow) (i : Instr) (p : Option Part) : Type 0 where
  pub unset : (s : ℕ) → sets_status i p ≡ Some s → IsUnset S.synchronization.requests t s
  pub wanted : wants_at i p ≡ true → is_some (want_of S.synchronization.nano t) ≡ true
  pub used : (k : Kind) (o : ObjNo) → kind_used i p ≡ Some k → row.uses ≡ Some o → IsOfKind S.references.objects k o
  pub found : (k : Kind) → kind_found i p ≡ Some k → FoundOf S k row.sought_place row.sought
  pub owned : (o : ObjNo) → receiving (Some i) p ≡ true → row.uses ≡ Some o → owner_of S.serving.servers o ≡ Some t
  pub came : (o : ObjNo) → takes_at i p ≡ true → row.uses ≡ Some o → HasCome S row o

abbrev pub IsMet : State → ObjNo → ThreadRow → Instr → Option Part → Type 0
IsMet S t row i p = asks i p ≡ true → Met S t row i p

-- a thread owns each server that a handle of its names
abbrev pub NamesOwn : State → ObjNo → ThreadRow → Type 0
NamesOwn S t old = (handle : ℕ) (o : ObjNo) → of_kind S kind.Server (object_at S t old handle) ≡ Some o → owner_of S.serving.servers o ≡ Some t

-- what an instruction asks at the step behind its look, where that found something
abbrev pub AsksOf : State → ObjNo → ThreadRow → Instr → Option ObjNo → Type 0
AsksOf S t old i found =
    NamesOwn S t old → (o : ObjNo) → found ≡ Some o
    → IsMet (perform t (GoOn t part.Do ∷ Gain (Temp t) o ∷ []) S) t (with_use (Some o) (with_part part.Do old)) i
    (Some part.Do)

-- a thread's row at a step of an instruction, where it uses something if the step does; and what the step asks is there, if it was at the step before
pub record IsOn (S : State) (t : ObjNo) (old : ThreadRow) (i : Instr) (p : Option Part) (T : State) (to : Part) (row : ThreadRow) : Type 0 where
  pub part : row.part ≡ Some to
  pub uses : needs_use (Some i) (Some to) ≡ true → is_some row.uses ≡ true
  pub met : NamesOwn S t old → IsMet S t old i p → IsMet T t row i (Some to)

-- what a step comes to for its thread: the instruction has no such step; or it answers, or opens what isn't a server, or does nothing, since something isn't there, or leaves its
-- thread at this step, or comes back without an answer, or goes on to another step; and its moves are proper
pub data Course (script : Script) (S : State) (t : ObjNo) (old : ThreadRow) (i : Instr) (p : Option Part) (d : Decision) : Type 0 where
  strays : (q : Part) → p ≡ Some q → has_step i q ≡ false → Course script S t old i p d
  answers : (code : ℤ) → d.answer ≡ Some code → acts d.step ≡ true → AreProper script (stepping S t) d.moves → Course script S t old i p d
  idles : Lacks script S t old i p → d ≡ nothing → Course script S t old i p d
  opens : (k : Kind) (o : ObjNo) (code : ℤ) → opening i p ≡ Some k → old.uses ≡ Some o → d.answer ≡ Some code
      → acts d.step ≡ true → (IsOther S o → AreProper script (stepping S t) d.moves) → Course script S t old i p d
  stays : total going_bit d.moves ≡ 0 → acts d.step ≡ true → AreProper script (resting S) d.moves → Course script S t old i p d
  comes : acts d.step ≡ true → AreProper script (stepping S t) d.moves
      → ((row : ThreadRow) → thread_of (perform t d.moves S) t ≡ Some row → row.part ≡ None)
      → Course script S t old i p d
  goes : (to : Part) → has_step i to ≡ true → d.answer ≡ None → acts d.step ≡ true
      → AreProper script (stepping S t) d.moves
      → ((row : ThreadRow) → thread_of (perform t d.moves S) t ≡ Some row → is_some row.part ≡ true
      → IsOn S t old i p (perform t d.moves S) to row)
      → Course script S t old i p d
