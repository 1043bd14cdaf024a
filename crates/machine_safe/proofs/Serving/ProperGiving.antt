-- A message is finished once it was taken, or as its server is closing; and what a thread gives up is proper.
use Rattle.std.proofs.Common.{Bool, List, None, Option, Some, ap, arith, inr, refl, true, ℕ, ℤ, ◌<◌, ◌∙◌, ◌≡◌, ◌⊎◌}
use Rattle.std.specs.Prelude.{if◌then◌else◌}
use Rattle.sym_base.specs.ErrorCode.{error_code}
use Rattle.sym_base.specs.declared.error.Error.TheVariants.{ServerTerminated}
use Rattle.sym_base.specs.declared.number.ObjNo.{ObjNo}
use Rattle.script_types.specs.declared.script.Script.{Script}
use Rattle.state_rows.specs.declared.messages.Message.{Message}
use Rattle.state_rows.specs.declared.messages.Way.{Way}
use Rattle.state_rows.specs.declared.messages.Way.TheVariants.{Async, Disconnect, Sync}
use Rattle.state_rows.specs.declared.thread.Stage.{Stage}
use Rattle.state_rows.specs.declared.thread.Stage.TheVariants.{Live}
use Rattle.state_rows.specs.declared.thread.ThreadRow.{ThreadRow}
use Rattle.machine.specs.Bodies.{end_wait}
use Rattle.machine.specs.Messaging.{close_refused, finish, is_refused, reply, reply_to}
use Rattle.machine.specs.Reaping.{finish_message, give_up, wake_next}
use Rattle.machine.specs.Rows.{thread_of}
use Rattle.machine.specs.ThreadCalls.{is_live}
use Rattle.machine.specs.declared.holding.Holding.{Holding}
use Rattle.machine.specs.declared.holding.Holding.TheVariants as holding
use Rattle.machine.specs.declared.moves.Move.{Move}
use Rattle.machine.specs.declared.state.State.{State}
use Rattle.machine_safe.proofs.Serving.Proper.{AreProper, awaited_by, message_awaited, resting, wakes-other}
use Rattle.move_laws.proofs.Lists.Cases.{if_cases}
use Rattle.machine.specs.Choice.{priority_of}
use Rattle.state_rows.specs.Locks.{best_waiter}
use Rattle.state_rows.specs.MessageRows.{message_of}
use Rattle.machine.specs.Serving.{call_names, is_called, times_called}
use Rattle.machine.specs.WellFormed.{AreRows}
use Rattle.machine_laws.proofs.Fitting.Finishing.{at_number}
use Rattle.machine_laws.proofs.Fitting.ServerEnds.{IsGiven}
use Rattle.move_laws.proofs.Readiness.FirstReady.{greatest_listed}
use Rattle.move_laws.proofs.RowLaws.Rising.{one_goes}
use Rattle.state_rows.specs.Locks.{waiters_at}
use Rattle.state_rows.specs.ServerRows.{is_closing}
use Rattle.std.proofs.lemmas.Bool.{eq-eqb}
use Rattle.machine_safe.proofs.Serving.ProperLists.{ended, proper-calm, proper-close}

module _ (script : Script) (S : State) (rows : AreRows script S) where
  abbrev Proper : List Move → Type 0
  Proper ms = AreProper script (resting S) ms

  -- the best waiter waits for no message
  pub waiter-other : (o w : ObjNo) → best_waiter (priority_of S) S.synchronization.locks o ≡ Some w → awaited_by (thread_of S w) ≡ None
  waiter-other o w best =
      let awaits = rows.synchronization.locks.waiters w o (greatest_listed (priority_of S) (waiters_at S.synchronization.locks o) w best) in
      ap awaited_by awaits.is ∙ ap message_awaited awaits.waits

  proper-wake_next : (o : ObjNo) (best : Option ObjNo) → best_waiter (priority_of S) S.synchronization.locks o ≡ best → Proper (wake_next best)
  proper-wake_next o None e = tt
  proper-wake_next o (Some w) e = (wakes-other (resting S) w (waiter-other o w e), tt)

  -- nor does a live client that waits for a reply
  client-other : (message : Message) (row : ThreadRow) → message_of S.serving.messages message.number ≡ Some message
      → message.row.way ≡ Sync → thread_of S message.row.client ≡ Some row → is_live row.stage ≡ true
      → awaited_by (thread_of S message.row.client) ≡ None
  client-other message row there way is live =
      let u = message.row.client in
      let self : is_called u u Sync ≡ true = eq-eqb u.0 u.0 refl in
      let one : call_names u message ≡ 1 = ap (λ (w : Way). if is_called u u w then 1 else 0) way ∙ ap (λ (b : Bool). if b then 1 else 0) self in
      let goes = one_goes (call_names u) message.number S.serving.messages.outstanding message rows.serving.messages.rising there in
      let some : 0 < times_called S.serving.messages.outstanding u = omega arith in
      ap awaited_by is ∙ ap message_awaited (rows.serving.messages.replies u row some is (lives row.stage live))
    where
      lives : (stage : Stage) → is_live stage ≡ true → stage ≡ Live
      lives Live e = refl
      lives stage e = absurd (cc)

  proper-end_wait : (u : ObjNo) (s : ℕ) (row : Option ThreadRow) → thread_of S u ≡ row → Proper (end_wait S u s row)
  proper-end_wait u s row is = (ended script S u u S S s row is (λ v o e. e)).0

  proper-reply : (message : Message) (row : ThreadRow) (code : ℤ) (way : Way)
      → message_of S.serving.messages message.number ≡ Some message → message.row.way ≡ way
      → thread_of S message.row.client ≡ Some row → is_live row.stage ≡ true
      → Proper (reply S message.row.client row code way)
  proper-reply message row code (Async s) there e is live = (tt, proper-end_wait message.row.client s (Some row) is)
  proper-reply message row code Sync there e is live = (tt, (wakes-other (resting S) message.row.client (client-other message row there e is live), tt))
  proper-reply message row code Disconnect there e is live = tt

  proper-reply_to : (message : Message) (code : ℤ) (row : Option ThreadRow)
      → message_of S.serving.messages message.number ≡ Some message → thread_of S message.row.client ≡ row
      → Proper (reply_to S message.row.client code message.row.way row)
  proper-reply_to message code None there is = tt
  proper-reply_to message code (Some row) there is =
      if_cases Proper (is_live row.stage) _ _ (λ live. proper-reply message row code message.row.way there refl is live)
      (λ _. tt)

  proper-close_refused : (message : Message) (code : ℤ) → Proper (close_refused message code)
  proper-close_refused message code = if_cases Proper (is_refused message code) _ _ (λ _. (tt, tt)) (λ _. tt)

  pub proper-finish : (message : Message) (code : ℤ) → message_of S.serving.messages message.number ≡ Some message
      → (message.row.taken ≡ true) ⊎ (is_closing S.serving.servers message.row.server ≡ true)
      → Proper (finish S message code)
  proper-finish message code there over = (
    record { row = message; there = there; over = over },
    proper-calm script S (close_refused message code) _ (proper-close_refused message code)
        (proper-reply_to message code (thread_of S message.row.client) there refl),
  )

  -- a thread gives up what it has
  pub proper-give : (t : ObjNo) (row : ThreadRow) (what : Holding) → IsGiven S t what → Proper (give_up S t row what).moves
  proper-give t row (holding.Mutex o) given = (tt, proper-wake_next o (best_waiter (priority_of S) S.synchronization.locks o) refl)
  proper-give t row (holding.Message m) given = finishes (message_of S.serving.messages m) refl
    where
      finishes : (found : Option Message) → message_of S.serving.messages m ≡ found → Proper (finish_message S found).moves
      finishes None e = tt
      finishes (Some message) e = proper-finish message (error_code ServerTerminated) (at_number S m message e) (inr (given.1 message e).1)
  proper-give t row (holding.Link s o) given = (tt, tt)
  proper-give t row (holding.Server o) given = (tt, (tt, tt))
  proper-give t row (holding.Use o) given = (tt, tt)
  proper-give t row (holding.Handle h o) given = proper-close script S t h o given.0
  proper-give t row (holding.Logon u s) given = (tt, (tt, proper-end_wait u s (thread_of S u) refl))
