-- What the moves of an action do beside fitting: a thread begins requests, sets statuses, waits and wants fast mutexes of its own; who is suspended, or
-- comes to want one, is live, and nobody's suspensions end before; whose suspensions and wants end at once is doomed behind that, and nobody else is
-- doomed; a call that is queued is declared, or a burial; a server is made as its owner's own, and all else by a handle; no table gets a server, but
-- that of the thread that makes it; messages are sent to servers that aren't closing, taken by a thread at a `receive`, and finished once they are
-- taken, or as their server is closing; and who waits for a message is woken only as one is sent to that server.
use Rattle.std.proofs.Common.{Bool, List, None, Option, Some, [], arith, false, inl, inr, refl, true, ℕ, ◌+◌, ◌++◌, ◌<◌, ◌≤◌, ◌∷◌, ◌≡◌, ◌⊎◌}
use Rattle.std.specs.Prelude.{if◌then◌else◌, is_some, nat_lt, slice_get, ◌==◌}
use Rattle.sym_base.specs.declared.kind.Kind.{Kind}
use Rattle.sym_base.specs.declared.kind.Kind.TheVariants as kind
use Rattle.sym_base.specs.declared.number.MsgNo.{MsgNo}
use Rattle.sym_base.specs.declared.number.ObjNo.{ObjNo}
use Rattle.script_types.specs.declared.instruction.Instr.{Instr}
use Rattle.script_types.specs.declared.instruction.Instr.TheVariants as instr
use Rattle.script_types.specs.declared.script.Script.{Script}
use Rattle.entry_log.specs.declared.effect.Holder.{Holder}
use Rattle.entry_log.specs.declared.effect.Holder.TheVariants.{InProcess, InThread, Own}
use Rattle.entry_log.specs.declared.step.Part.{Part}
use Rattle.entry_log.specs.declared.step.Part.TheVariants as part
use Rattle.state_rows.specs.MessageRows.{message_of}
use Rattle.state_rows.specs.ServerRows.{is_closing}
use Rattle.state_rows.specs.declared.messages.Message.{Message}
use Rattle.state_rows.specs.declared.object.ObjectRow.{ObjectRow}
use Rattle.state_rows.specs.declared.thread.Stage.TheVariants.{Live}
use Rattle.state_rows.specs.declared.thread.ThreadRow.{ThreadRow}
use Rattle.state_rows.specs.declared.thread.Waiting.{Waiting}
use Rattle.state_rows.specs.declared.thread.Waiting.TheVariants as waiting
use Rattle.machine.specs.EntryWords.{is_handle}
use Rattle.machine.specs.Moves.{next_object}
use Rattle.machine.specs.Rows.{object_of, thread_of}
use Rattle.machine.specs.Task.{instruction}
use Rattle.machine.specs.Fits.{IsLive}
use Rattle.machine.specs.declared.death_move.DeathMove.TheVariants.{Doom}
use Rattle.machine.specs.declared.deferred_move.DeferredMove.TheVariants.{Add, AddFromInterrupt}
use Rattle.machine.specs.declared.message_move.MessageMove.TheVariants as message
use Rattle.machine.specs.declared.moves.Move.{Move}
use Rattle.machine.specs.declared.moves.Move.TheVariants.{Death, Deferred, Gain, Lose, Make, Messages, Nano, Requests, Servers, Wait, Wake}
use Rattle.machine.specs.declared.nano_move.NanoMove.TheVariants.{Release, Suspend, Take, Want}
use Rattle.machine.specs.declared.request_move.RequestMove.TheVariants.{Begin, SetPending}
use Rattle.machine.specs.declared.server_move.ServerMove.TheVariants.{Close, CloseAll, Join, Start}
use Rattle.machine.specs.References.{total}
use Rattle.machine.specs.declared.state.State.{State}
use Rattle.machine_laws.proofs.Fitting.Regular.{doomed_bit}
use Rattle.move_laws.proofs.Lists.Totals.{total-append}
use Rattle.sym_base.specs.KindNumber.{kind_number}

-- a call that is queued has the number of a declared one, or past those of all declared ones
abbrev pub IsCalled : Script → ℕ → Type 0
IsCalled script dfc = nat_lt dfc 64 ≡ true → is_some (slice_get script.dfcs dfc) ≡ true

-- whether a kind is this one
abbrev pub is_kind : Kind → Kind → Bool
is_kind one other = kind_number other == kind_number one

-- whether the first of some moves makes an object as a thread's own
abbrev pub makes_own : List Move → Bool
makes_own (Make k name (Own t) ∷ ms) = true
makes_own ms = false

-- 1 for a move that makes a session, and for one that joins one to a server
abbrev pub join_bit : Move → ℕ
join_bit (Make k name h) = if is_kind kind.Session k then 1 else 0
join_bit (Servers (Join s o slots u)) = 1
join_bit m = 0

-- 1 for a move by which a thread is suspended, or comes to want a fast mutex
abbrev pub stop_bit : Move → ℕ
stop_bit (Nano (Suspend u)) = 1
stop_bit (Nano (Want u f)) = 1
stop_bit m = 0

-- 1 for one that stands in the first list of moves of an action alone
abbrev pub first_bit : Move → ℕ
first_bit m = join_bit m + stop_bit m

-- what an action did last of what later moves of it need: a message was sent to a server, or a thread's suspensions and wants ended
pub data Mark : Type 0 where
  posted : ObjNo → Mark
  released : ObjNo → Mark

-- who goes on with its instruction in an action, the state before it, and what the action did last before some moves
abbrev pub Going : Type 0
Going = Option ObjNo × State × Option Mark

abbrev pub goes_on : Going → Option ObjNo
goes_on by = by.0

-- the number of the first object that is made, if somebody goes on
abbrev pub first_made : Option ObjNo → State → Option ℕ
first_made None S = None
first_made (Some t) S = Some (next_object S).0

abbrev pub number_made : Going → Option ℕ
number_made by = first_made by.0 by.1

abbrev pub stepping : State → ObjNo → Going
stepping S t = (Some t, S, None)

abbrev pub resting : State → Going
resting S = (None, S, None)

abbrev pub marked : Move → Option Mark → Option Mark
marked (Messages (message.Accept slots row)) last = Some (posted row.server)
marked (Nano (Release u)) last = Some (released u)
marked m last = last

abbrev pub onward : Going → Move → Going
onward by m = (by.0, by.1, marked m by.2)

-- whoever goes on is a thread of this process
pub record IsOfProcess (on : Option ObjNo) (S : State) (p : ObjNo) : Type 0 where
  pub thread : ObjNo
  pub goes : on ≡ Some thread
  pub row : ThreadRow
  pub is : thread_of S thread ≡ Some row
  pub own : row.process ≡ p

-- whose handle may come into a table: of a process only that of a thread of it
abbrev pub MayGive : Going → Holder → Type 0
MayGive by (InProcess p i) = IsOfProcess by.0 by.1 p
MayGive by h = Unit {0}

-- how an object is made
abbrev pub IsMadeBy : Going → Kind → Holder → Type 0
IsMadeBy by k (Own t) = (is_kind kind.Server k ≡ true) × (is_kind kind.Thread k ≡ false)
IsMadeBy by k (InProcess p i) = (is_kind kind.Server k ≡ false) × (is_kind kind.Thread k ≡ false) × IsOfProcess by.0 by.1 p
IsMadeBy by k h = (is_kind kind.Server k ≡ false) × (is_kind kind.Thread k ≡ false)

-- an object that is there, and is no server
abbrev pub IsOther : State → ObjNo → Type 0
IsOther S o = (row : ObjectRow) × (object_of S o ≡ Some row) × (is_kind kind.Server row.kind ≡ false)

-- what a table may get: no server, but that which is made now by the thread of the table
abbrev pub MayHave : Going → Holder → ObjNo → Type 0
MayHave by (InProcess p i) o = IsOther by.1 o × IsOfProcess by.0 by.1 p
MayHave by (InThread u i) o = IsOther by.1 o ⊎ ((o.0 ≡ (next_object by.1).0) × (goes_on by ≡ Some u))
MayHave by h o = Unit {0}

-- the server for whose message a thread waits
abbrev pub message_awaited : Waiting → Option ObjNo
message_awaited (waiting.Receive o) = Some o
message_awaited what = None

abbrev pub awaited_by : Option ThreadRow → Option ObjNo
awaited_by None = None
awaited_by (Some row) = message_awaited row.waiting

-- who is woken
abbrev pub MayWake : Going → ObjNo → Type 0
MayWake by u = (o : ObjNo) → awaited_by (thread_of by.1 u) ≡ Some o → by.2 ≡ Some (posted o)

-- the steps of a `receive` behind its look
abbrev pub receiving : Option Instr → Option Part → Bool
receiving (Some (instr.Receive x y)) (Some part.Do) = true
receiving (Some (instr.Receive x y)) (Some part.Done) = true
receiving at p = false

-- who takes a message of a server
pub record IsTaking (script : Script) (by : Going) (o : ObjNo) : Type 0 where
  pub thread : ObjNo
  pub on : goes_on by ≡ Some thread
  pub row : ThreadRow
  pub is : thread_of by.1 thread ≡ Some row
  pub live : row.stage ≡ Live
  pub uses : row.uses ≡ Some o
  pub at : receiving (instruction script row) row.part ≡ true

-- which message is finished
pub record MayFinish (S : State) (m : MsgNo) : Type 0 where
  pub row : Message
  pub there : message_of S.serving.messages m ≡ Some row
  pub over : (row.row.taken ≡ true) ⊎ (is_closing S.serving.servers row.row.server ≡ true)

-- the first of some moves takes a handle of an object away
abbrev pub LosesFirst : ObjNo → List Move → Type 0
LosesFirst o (Lose h x ∷ ms) = (is_handle h ≡ true) × (x ≡ o)
LosesFirst o ms = ⊥

-- the first of some moves joins the first object that is made to a server
abbrev pub JoinsFirst : Going → List Move → Type 0
JoinsFirst by (Servers (Join s o slots u) ∷ ms) = number_made by ≡ Some s.0
JoinsFirst by ms = ⊥

-- a move, with those behind it, in an action: a session that is made joins a server at once, and is the only one
abbrev pub IsProper : Script → Going → Move → List Move → Type 0
IsProper script by (Make k name h) ms = IsMadeBy by k h × (total join_bit ms ≤ 1) × (is_kind kind.Session k ≡ true → JoinsFirst by ms)
IsProper script by (Gain h o) ms = MayHave by h o
IsProper script by (Wait u what) ms = goes_on by ≡ Some u
IsProper script by (Wake u) ms = MayWake by u
IsProper script by (Nano (Take u f)) ms = goes_on by ≡ Some u
IsProper script by (Nano (Want u f)) ms = (goes_on by ≡ Some u) × IsLive by.1 u × (by.2 ≡ None)
IsProper script by (Nano (Suspend u)) ms = (is_some (goes_on by) ≡ true) × IsLive by.1 u × (by.2 ≡ None)
IsProper script by (Nano (Release u)) ms = 0 < total (doomed_bit u) ms
IsProper script by (Death (Doom u exit)) ms = by.2 ≡ Some (released u)
IsProper script by (Requests (Begin d u s)) ms = goes_on by ≡ Some u
IsProper script by (Requests (SetPending u s)) ms = goes_on by ≡ Some u
IsProper script by (Deferred (Add dfc queue)) ms = IsCalled script dfc
IsProper script by (Deferred (AddFromInterrupt dfc)) ms = is_some (slice_get script.dfcs dfc) ≡ true
IsProper script by (Servers (Start o u)) ms = (makes_own ms ≡ true) × (total join_bit ms ≡ 0) × (goes_on by ≡ Some u)
IsProper script by (Servers (Join s o slots u)) ms = number_made by ≡ Some s.0
IsProper script by (Servers (Close o)) ms = LosesFirst o ms
IsProper script by (Servers (CloseAll u)) ms = 0 < total (doomed_bit u) ms
IsProper script by (Messages (message.Accept slots row)) ms = is_closing by.1.serving.servers row.server ≡ false
IsProper script by (Messages (message.Take o)) ms = IsTaking script by o
IsProper script by (Messages (message.Finish m code)) ms = MayFinish by.1 m
IsProper script by m ms = Unit {0}

abbrev pub AreProper : Script → Going → List Move → Type 0
AreProper script by [] = Unit {0}
AreProper script by (m ∷ ms) = IsProper script by m ms × AreProper script (onward by m) ms

-- the same before further moves
own-behind : (ms ns : List Move) → makes_own ms ≡ true → makes_own (ms ++ ns) ≡ true
own-behind [] ns e = absurd (cc)
own-behind (Make k name (Own t) ∷ ms) ns e = refl
own-behind (m ∷ ms) ns e = absurd (cc)

loses-behind : (o : ObjNo) (ms ns : List Move) → LosesFirst o ms → LosesFirst o (ms ++ ns)
loses-behind o [] ns h = absurd h
loses-behind o (Lose h x ∷ ms) ns is = is
loses-behind o (m ∷ ms) ns h = absurd h

joins-behind : (by : Going) (ms ns : List Move) → JoinsFirst by ms → JoinsFirst by (ms ++ ns)
joins-behind by [] ns h = absurd h
joins-behind by (Servers (Join s o slots u) ∷ ms) ns is = is
joins-behind by (m ∷ ms) ns h = absurd h

joins-later : (on : Option ObjNo) (S : State) (last : Option Mark) (ms : List Move) → JoinsFirst (on, S, None) ms → JoinsFirst (on, S, last) ms
joins-later on S last [] h = absurd h
joins-later on S last (Servers (Join s o slots u) ∷ ms) is = is
joins-later on S last (m ∷ ms) h = absurd h

pub joins-onward : (by : Going) (m : Move) (ms : List Move) → JoinsFirst by ms → JoinsFirst (onward by m) ms
joins-onward by m [] h = absurd h
joins-onward by m (Servers (Join s o slots u) ∷ ms) is = is
joins-onward by m (n ∷ ms) h = absurd h

nobody-first : (S : State) (last : Option Mark) (ms : List Move) → JoinsFirst (None, S, last) ms → ⊥
nobody-first S last [] h = h
nobody-first S last (Servers (Join s o slots u) ∷ ms) is = absurd (cc)
nobody-first S last (m ∷ ms) h = h

proper-behind : (script : Script) (by : Going) (m : Move) (ms ns : List Move) → total join_bit ns ≡ 0
    → IsProper script by m ms → IsProper script by m (ms ++ ns)
proper-behind script by (Make k name h) ms ns none is =
    (is.0, (let all = total-append join_bit ms ns in let few = is.1 in omega arith), λ session. joins-behind by ms ns (is.2 session))
proper-behind script by (Requests (Begin d u s)) ms ns none is = is
proper-behind script by (Deferred (Add dfc queue)) ms ns none is = is
proper-behind script by (Nano (Release u)) ms ns none some = let all = total-append (doomed_bit u) ms ns in omega arith
proper-behind script by (Death (Doom u exit)) ms ns none is = is
proper-behind script by (Servers (Start o u)) ms ns none is =
    (own-behind ms ns is.0, (let all = total-append join_bit ms ns in let first = is.1 in omega arith), is.2)
proper-behind script by (Servers (Close o)) ms ns none is = loses-behind o ms ns is
proper-behind script by (Servers (CloseAll u)) ms ns none some = let all = total-append (doomed_bit u) ms ns in omega arith
proper-behind script by (Messages (message.Take o)) ms ns none is = is
proper-behind script by m ms ns none is = is

-- and behind others
made-later : (on : Option ObjNo) (S : State) (last : Option Mark) (k : Kind) (h : Holder) → IsMadeBy (on, S, None) k h → IsMadeBy (on, S, last) k h
made-later on S last k (Own t) is = is
made-later on S last k h is = is

later-one : (script : Script) (on : Option ObjNo) (S : State) (last : Option Mark) (m : Move) (ms : List Move)
    → stop_bit m ≡ 0 → IsProper script (on, S, None) m ms → IsProper script (on, S, last) m ms
later-one script on S last (Nano (Release u)) ms none is = is
later-one script on S last (Nano (Want u f)) ms none is = absurd (omega arith)
later-one script on S last (Nano (Suspend u)) ms none is = absurd (omega arith)
later-one script on S last (Death (Doom u exit)) ms none is = absurd (cc)
later-one script on S last (Servers (Start o u)) ms none is = is
later-one script on S last (Wake u) ms none may = λ o is. let nobody = may o is in absurd (cc)
later-one script on S last (Requests (Begin d u s)) ms none is = is
later-one script on S last (Deferred (Add dfc queue)) ms none is = is
later-one script on S last (Messages (message.Take o)) ms none is = record {
  thread = is.thread;
  on = is.on;
  row = is.row;
  is = is.is;
  live = is.live;
  uses = is.uses;
  at = is.at;
}
later-one script on S last (Make k name h) ms none is = (made-later on S last k h is.0, is.1, λ session. joins-later on S last ms (is.2 session))
later-one script on S last (Gain (InThread u i) o) ms none is = is
later-one script on S last m ms none is = is

later : (script : Script) (on : Option ObjNo) (S : State) (last : Option Mark) (ms : List Move)
    → total first_bit ms ≡ 0 → AreProper script (on, S, None) ms → AreProper script (on, S, last) ms
later script on S last [] none are = tt
later script on S last (Messages (message.Accept slots row) ∷ ms) none are = (are.0, are.1)
later script on S last (Nano (Release u) ∷ ms) none are = (are.0, are.1)
later script on S last (m ∷ ms) none are = (later-one script on S last m ms (omega arith) are.0, later script on S last ms (omega arith) are.1)

unjoined : (ms : List Move) → total first_bit ms ≡ 0 → total join_bit ms ≡ 0
unjoined [] none = refl
unjoined (m ∷ ms) none = let rest = unjoined ms (omega arith) in omega arith

pub proper-then : (script : Script) (by : Going) (ms ns : List Move) → total first_bit ns ≡ 0 → AreProper script by ms
    → AreProper script (by.0, by.1, None) ns → AreProper script by (ms ++ ns)
proper-then script by [] ns none are more = later script by.0 by.1 by.2 ns none more
proper-then script by (m ∷ ms) ns none are more =
    (proper-behind script by m ms ns (unjoined ns none) are.0, proper-then script (onward by m) ms ns none are.1 more)

-- nobody joins sessions, is suspended or comes to want a fast mutex where nobody goes on
nobody-joins : (script : Script) (S : State) (last : Option Mark) (m : Move) (ms : List Move) → IsProper script (None, S, last) m ms → first_bit m ≡ 0
nobody-joins script S last (Servers (Join s o slots u)) ms is = absurd (cc)
nobody-joins script S last (Nano (Want u f)) ms is = let none = is.0 in absurd (cc)
nobody-joins script S last (Nano (Suspend u)) ms is = let none = is.0 in absurd (cc)
nobody-joins script S last (Make k name h) ms is = by (is_kind kind.Session k) refl
  where
    by : (b : Bool) → is_kind kind.Session k ≡ b → ◌≡◌ {A = ℕ} ((if b then 1 else 0) + 0) 0
    by true session = absurd (nobody-first S last ms (is.2 session))
    by false other = refl
nobody-joins script S last m ms is = refl

pub nobody-joined : (script : Script) (S : State) (last : Option Mark) (ms : List Move) → AreProper script (None, S, last) ms → total first_bit ms ≡ 0
nobody-joined script S last [] are = refl
nobody-joined script S last (m ∷ ms) are =
    let one = nobody-joins script S last m ms are.0 in
    let rest = nobody-joined script S (marked m last) ms are.1 in
    omega arith

-- what is proper by nobody's going on is so by anybody's
made-any : (t : ObjNo) (S : State) (last : Option Mark) (k : Kind) (h : Holder) → IsMadeBy (None, S, last) k h → IsMadeBy (Some t, S, last) k h
made-any t S last k (Own u) is = is
made-any t S last k (InProcess p i) is = let none = is.2.goes in absurd (cc)
made-any t S last k h is = is

proper-one : (script : Script) (t : ObjNo) (S : State) (last : Option Mark) (m : Move) (ms : List Move)
    → IsProper script (None, S, last) m ms → IsProper script (Some t, S, last) m ms
proper-one script t S last (Make k name h) ms is =
    (made-any t S last k h is.0, is.1, λ session. absurd (nobody-first S last ms (is.2 session)))
proper-one script t S last (Gain (InProcess p i) o) ms is = let none = is.1.goes in absurd (cc)
proper-one script t S last (Wait u what) ms is = absurd (cc)
proper-one script t S last (Nano (Take u f)) ms is = absurd (cc)
proper-one script t S last (Nano (Want u f)) ms is = let none = is.0 in absurd (cc)
proper-one script t S last (Nano (Suspend u)) ms is = let none = is.0 in absurd (cc)
proper-one script t S last (Requests (Begin d u s)) ms is = absurd (cc)
proper-one script t S last (Requests (SetPending u s)) ms is = absurd (cc)
proper-one script t S last (Servers (Start o u)) ms is = let none = is.2 in absurd (cc)
proper-one script t S last (Servers (Join s o slots u)) ms is = absurd (cc)
proper-one script t S last (Messages (message.Take o)) ms is = let none = is.on in absurd (cc)
proper-one script t S last (Death (Doom u exit)) ms is = is
proper-one script t S last (Deferred (Add dfc queue)) ms is = is
proper-one script t S last (Gain (InThread u i) o) ms is = elim is as (λ _. MayHave (Some t, S, last) (InThread u i) o) [
  | inl other ↦ inl other
  | inr made ↦ let none = made.1 in absurd (cc)
]
proper-one script t S last m ms is = is

pub proper-any : (script : Script) (t : ObjNo) (S : State) (last : Option Mark) (ms : List Move)
    → AreProper script (None, S, last) ms → AreProper script (Some t, S, last) ms
proper-any script t S last [] are = tt
proper-any script t S last (m ∷ ms) are = (proper-one script t S last m ms are.0, proper-any script t S (marked m last) ms are.1)

-- who waits for no message may be woken; and who waits for one of a server to which one was sent
pub wakes-other : (by : Going) (u : ObjNo) → awaited_by (thread_of by.1 u) ≡ None → MayWake by u
wakes-other by u none o is = absurd (cc)

-- what is no server may be had
pub other-had : (by : Going) (h : Holder) (o : ObjNo) → MayGive by h → IsOther by.1 o → MayHave by h o
other-had by (InProcess p i) o given other = (other, given)
other-had by (InThread u i) o given other = inl other
other-had by h o given other = tt
