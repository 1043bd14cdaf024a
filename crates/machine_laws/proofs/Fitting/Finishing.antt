-- What finishes a message fits: it goes, its session closes where a connection is refused, and its client is told.
use Rattle.std.proofs.Common.{◌≡◌, ℕ, ℤ, ◌<◌, ◌≤◌, List, [], ◌∷◌, ◌++◌, arith, refl, sym, ap, subst, ◌∙◌, Option, Some, None, true, false}
use Rattle.std.specs.Prelude.{is_some, if◌then◌else◌}
use Rattle.std.proofs.lemmas.Bool.{eq-eqb, eqb-true}
use Rattle.sym_base.specs.declared.number.MsgNo.{MsgNo}
use Rattle.sym_base.specs.declared.number.ObjNo.{ObjNo}
use Rattle.script_types.specs.declared.script.Script.{Script}
use Rattle.state_rows.specs.MessageRows.{has_number, message_of}
use Rattle.state_rows.specs.declared.messages.Message.{Message}
use Rattle.state_rows.specs.declared.messages.Way.{Way}
use Rattle.state_rows.specs.declared.messages.Way.TheVariants.{Async, Sync, Disconnect}
use Rattle.state_rows.specs.declared.servers.ServerRows.{ServerRows}
use Rattle.state_rows.specs.declared.thread.Stage.{Stage}
use Rattle.state_rows.specs.declared.thread.Stage.TheVariants.{Live}
use Rattle.state_rows.specs.declared.thread.ThreadRow.{ThreadRow}
use Rattle.machine.specs.declared.message_move.MessageMove.TheVariants.{Finish}
use Rattle.machine.specs.declared.moves.Move.{Move}
use Rattle.machine.specs.declared.moves.Move.TheVariants.{Requests, Servers, Messages}
use Rattle.machine.specs.declared.request_move.RequestMove.TheVariants.{Signal}
use Rattle.machine.specs.declared.server_move.ServerMove.TheVariants.{SetOpen}
use Rattle.machine.specs.declared.state.State.{State}
use Rattle.machine.specs.Bodies.{end_wait}
use Rattle.machine.specs.Fits.{EachFits, MayOweMore, most_owed, most_told}
use Rattle.machine.specs.Messaging.{close_refused, finish, is_refused, reply, reply_to}
use Rattle.machine.specs.Moves.{moved}
use Rattle.machine.specs.References.{total}
use Rattle.machine.specs.Rows.{thread_of}
use Rattle.machine.specs.ServerMoves.{servers_moved}
use Rattle.machine.specs.Serving.{call_names, is_called, is_sent, sent_names, times_called, times_sent}
use Rattle.machine.specs.ThreadCalls.{is_live}
use Rattle.machine.specs.WellFormed.{AreRows}
use Rattle.move_laws.proofs.Lists.Cases.{if_cases}
use Rattle.move_laws.proofs.Lists.Contents.{found_there}
use Rattle.move_laws.proofs.Lists.Totals.{inside}
use Rattle.move_laws.proofs.RowLaws.Rising.{one_goes}
use Rattle.machine_laws.proofs.Fitting.Bodies.{OwesNothing, light-end, light-then, no_moves}
use Rattle.machine_laws.proofs.Fitting.Waiters.{waits_nowhere}
use Rattle.machine_laws.proofs.Fitting.Regular.{IsTame, Kinds, plain, serving}
use Rattle.machine_laws.proofs.Fitting.Tame.{tame-at, tame-both, tame-moves}
use Rattle.machine.specs.Bodies.{end_wait, ends_wait}

-- a message that is outstanding stands at its number
pub at_number : (S : State) (m : MsgNo) (message : Message) → message_of S.serving.messages m ≡ Some message
    → message_of S.serving.messages message.number ≡ Some message
at_number S m message found =
    let number = eqb-true message.number.0 m.0 (found_there (has_number m) S.serving.messages.outstanding message found).1 in
    subst (λ (n : MsgNo). message_of S.serving.messages n ≡ Some message) (same_number m message.number (sym number)) found
  where
    same_number : (a b : MsgNo) → a.0 ≡ b.0 → a ≡ b
    same_number a b e = let made : ℕ → MsgNo = λ n. record { 0 = n } in ap made e

live_by : (stage : Stage) → is_live stage ≡ true → stage ≡ Live
live_by Live e = refl
live_by _ e = absurd (cc)

-- the close of its session, and what its client is told, are tame in any kind
pub tame-refused : {k : Kinds} (message : Message) (code : ℤ) → IsTame k 0 (close_refused message code)
tame-refused {k = k} message code = if_cases (IsTame k 0) (is_refused message code) _ _ (λ _. tame-moves _ refl refl) (λ _. tame-moves [] refl refl)

tame-end : {k : Kinds} (S : State) (u : ObjNo) (s : ℕ) (row : Option ThreadRow) → IsTame k 0 (end_wait S u s row)
tame-end S u s None = tame-moves [] refl refl
tame-end {k = k} S u s (Some row) = if_cases (IsTame k 0) (ends_wait S u s row.waiting) _ _ (λ _. tame-moves _ refl refl) (λ _. tame-moves [] refl refl)

tame-reply : {k : Kinds} (S : State) (u : ObjNo) (row : ThreadRow) (code : ℤ) (way : Way) → IsTame k 0 (reply S u row code way)
tame-reply S u row code (Async s) =
    tame-both (Requests (Signal u s code) ∷ []) (end_wait S u s (Some row))
    (let few = (tame-end {k = plain} S u s (Some row)).loses in omega arith) (tame-moves _ refl refl)
    (tame-end S u s (Some row))
tame-reply S u row code Sync = tame-moves _ refl refl
tame-reply S u row code Disconnect = tame-moves [] refl refl

pub tame-reply_to : {k : Kinds} (S : State) (u : ObjNo) (code : ℤ) (way : Way) (row : Option ThreadRow) → IsTame k 0 (reply_to S u code way row)
tame-reply_to S u code way None = tame-moves [] refl refl
tame-reply_to {k = k} S u code way (Some row) = if_cases (IsTame k 0) (is_live row.stage) _ _ (λ _. tame-reply S u row code way) (λ _. tame-moves [] refl refl)

-- the state in which it is finished, and its session is closed perhaps
abbrev finished : State → ObjNo → Message → ℤ → State
finished S t message code = moved t (Messages (Finish message.number code)) S

module _ (script : Script) (S : State) (t : ObjNo) (message : Message) (code : ℤ) (rows : AreRows script S)
    (found : message_of S.serving.messages message.number ≡ Some message) where
  -- of a thread it was the only one of its status, and the only one whose end it waits for
  sent_once : (u : ObjNo) (s : ℕ) → message.row.client ≡ u → message.row.way ≡ Async s
      → (0 < times_sent S.serving.messages.outstanding u s)
      × (times_sent (finished S t message code).serving.messages.outstanding u s ≡ 0)
  sent_once u s client way =
      let one : sent_names u s message ≡ 1 = ap (λ (w : Way). if is_sent u s message.row.client w then 1 else 0) way
      ∙ ap (λ (c : ObjNo). if is_sent u s c (Async s) then 1 else 0) client ∙ self u s in
      let goes = one_goes (sent_names u s) message.number S.serving.messages.outstanding message rows.serving.messages.rising found in
      let most = rows.serving.messages.sent u s in (omega arith, omega arith)
    where
      self : (u : ObjNo) (s : ℕ) → ◌≡◌ {A = ℕ} (if is_sent u s u (Async s) then 1 else 0) 1
      self u s = rw (eq-eqb u.0 u.0 refl, eq-eqb s s refl) refl

  called_once : (u : ObjNo) → message.row.client ≡ u → message.row.way ≡ Sync
      → (0 < times_called S.serving.messages.outstanding u)
      × (times_called (finished S t message code).serving.messages.outstanding u ≡ 0)
  called_once u client way =
      let one : call_names u message ≡ 1 = ap (λ (w : Way). if is_called u message.row.client w then 1 else 0) way
      ∙ ap (λ (c : ObjNo). if is_called u c Sync then 1 else 0) client ∙ self u in
      let goes = one_goes (call_names u) message.number S.serving.messages.outstanding message rows.serving.messages.rising found in
      let most = rows.serving.messages.called u in (omega arith, omega arith)
    where
      self : (u : ObjNo) → ◌≡◌ {A = ℕ} (if is_called u u Sync then 1 else 0) 1
      self u = rw (eq-eqb u.0 u.0 refl) refl

  -- it isn't awaited more often then
  called_fewer : (u : ObjNo) → times_called (finished S t message code).serving.messages.outstanding u ≤ times_called S.serving.messages.outstanding u
  called_fewer u = let goes = one_goes (call_names u) message.number S.serving.messages.outstanding message rows.serving.messages.rising found in omega arith

  -- the state then, with any rows of servers
  abbrev left : ServerRows → State
  left servers = record (finished S t message code) { serving = record ((finished S t message code).serving) { servers = servers } }

  -- a status is completed, and the wait for it ends
  tells-status : (servers : ServerRows) (u : ObjNo) (row : ThreadRow) (s : ℕ) → thread_of S u ≡ Some row
      → row.stage ≡ Live → message.row.client ≡ u → message.row.way ≡ Async s
      → OwesNothing serving script t (left servers) (reply S u row code (Async s)) 1
  tells-status servers u row s is live client way =
      let once = sent_once u s client way in
      let untold = rows.serving.messages.awaited u s once.0 in
      light-then script (left servers) t (Requests (Signal u s code) ∷ []) (end_wait S u s (Some row)) 1 0 1 (omega arith)
      (record { each = ((untold, (record { row = row; is = is; live = live }, once.1)), tt); told = omega arith; light = refl; calm = tame-moves _ refl refl })
      (light-end script S (moved t (Requests (Signal u s code)) (left servers)) t u s (Some row) rows refl refl (called_fewer u) is) refl

  -- a reply is given, and the wait for it ends
  tells-reply : (servers : ServerRows) (u : ObjNo) (row : ThreadRow) → thread_of S u ≡ Some row → row.stage ≡ Live
      → message.row.client ≡ u → message.row.way ≡ Sync
      → OwesNothing serving script t (left servers) (reply S u row code Sync) 1
  tells-reply servers u row is live client way =
      let once = called_once u client way in
      let waits = rows.serving.messages.replies u row once.0 is live in
      let within = inside S.references.threads u.0 row is in
      let sized = rows.synchronization.requests.sized in
      record {
        each = (
          (omega arith, record { row = row; is = is; live = live }),
          ((waits_nowhere script S u row rows is (λ o e. absurd (cc)), λ r at lives. once.1), tt),
        );
        told = omega arith;
        light = refl;
        calm = tame-moves _ refl refl;
      }

  tells : (servers : ServerRows) (u : ObjNo) (row : ThreadRow) (way : Way) → thread_of S u ≡ Some row → row.stage ≡ Live
      → message.row.client ≡ u → message.row.way ≡ way
      → OwesNothing serving script t (left servers) (reply S u row code way) 1
  tells servers u row (Async s) is live client way = tells-status servers u row s is live client way
  tells servers u row Sync is live client way = tells-reply servers u row is live client way
  tells servers u row Disconnect is live client way = no_moves script (left servers) t 1

  tells-client : (servers : ServerRows) (row : Option ThreadRow) → thread_of S message.row.client ≡ row
      → OwesNothing serving script t (left servers) (reply_to S message.row.client code message.row.way row) 1
  tells-client servers None is = no_moves script (left servers) t 1
  tells-client servers (Some row) is =
      if_cases (λ (ms : List Move). OwesNothing serving script t (left servers) ms 1) (is_live row.stage) _ _
      (λ live. tells servers message.row.client row message.row.way is (live_by row.stage live) refl refl) (λ _. no_moves script (left servers) t 1)

  -- the session closes where a connection is refused, and the client is told
  ends : OwesNothing serving script t (finished S t message code)
      (close_refused message code ++ reply_to S message.row.client code message.row.way
      (thread_of S message.row.client)) 1
  ends =
      if_cases (λ (ms : List Move). OwesNothing serving script t (finished S t message code)
      (ms ++ reply_to S message.row.client code message.row.way (thread_of S message.row.client)) 1)
      (is_refused message code) _ _
      (λ _.
      let closes = SetOpen message.row.session false in
      light-then script (finished S t message code) t (Servers closes ∷ []) _ 0 1 1 (omega arith)
      (record {
        each = (
          rows.serving.messages.sessions message
              (found_there (has_number message.number) S.serving.messages.outstanding message found).0,
          tt,
        );
        told = omega arith;
        light = refl;
        calm = tame-moves _ refl refl;
      })
      (tells-client (servers_moved closes S.serving.owned S.serving.servers) (thread_of S message.row.client) refl) refl)
      (λ _. tells-client S.serving.servers (thread_of S message.row.client) refl)

-- what finishes a message fits, tells two effects at most, and owes two closes
pub record Finishes (script : Script) (S : State) (t : ObjNo) (ms : List Move) : Type 0 where
  pub each : EachFits script t ms S
  pub told : total most_told ms ≤ 2
  pub light : total most_owed ms ≤ 8
  pub calm : IsTame serving 0 ms

pub finishes : (script : Script) (S : State) (t : ObjNo) (m : MsgNo) (message : Message) (code : ℤ) → AreRows script S
    → MayOweMore S t → message_of S.serving.messages m ≡ Some message → Finishes script S t (finish S message code)
finishes script S t m message code rows may at =
    let found = at_number S m message at in
    let more = ends script S t message code rows found in
    record {
      each = ((ap is_some found, may, tt), more.each);
      told = let few = more.told in omega arith;
      light = let none = more.light in omega arith;
      calm = tame-both (Messages (Finish message.number code) ∷ []) _ (let few = more.calm.loses in omega arith) (tame-at serving _ refl refl) more.calm;
    }
