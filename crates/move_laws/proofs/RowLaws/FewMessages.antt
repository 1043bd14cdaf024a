-- How many messages are outstanding: at most one for each status of a thread, one for each thread, and one for each session.
use Rattle.std.proofs.Common.{◌≡◌, inl, inr, ℕ, zero, suc, ◌+◌, ◌*◌, ◌<◌, ◌≤◌, Bool, true, false, List, [], ◌∷◌, length, get_or, arith, refl, sym, ap, ◌∙◌, Option, None}
use Rattle.std.specs.Prelude.{◌==◌, Contains, if◌then◌else◌, is_some}
use Rattle.std.proofs.lemmas.Bool.{cases_lt, eq-eqb}
use Rattle.std.proofs.lemmas.List.{length_push}
use Rattle.sym_base.specs.declared.limits.TheConstants.Limits.{OBJECTS}
use Rattle.sym_base.specs.declared.kind.Slots.{Slots}
use Rattle.sym_base.specs.declared.number.ObjNo.{ObjNo}
use Rattle.script_types.specs.declared.script.Script.{Script}
use Rattle.state_rows.specs.MessageChanges.{added, next_number}
use Rattle.state_rows.specs.declared.messages.Message.{Message}
use Rattle.state_rows.specs.declared.messages.MessageRows.{MessageRows}
use Rattle.state_rows.specs.declared.messages.MsgRow.{MsgRow}
use Rattle.state_rows.specs.declared.messages.Way.{Way}
use Rattle.state_rows.specs.declared.messages.Way.TheVariants.{Async, Sync, Disconnect}
use Rattle.state_rows.specs.declared.servers.ServerRows.{ServerRows}
use Rattle.state_rows.specs.declared.servers.SessionRow.{SessionRow}
use Rattle.state_rows.specs.declared.thread.ThreadRow.{ThreadRow}
use Rattle.machine.specs.FitsServers.{MayAccept}
use Rattle.machine.specs.References.{total}
use Rattle.machine.specs.Serving.{AreMessages, call_names, disconnect_bit_of, disconnects_of, is_called, is_sent, sent_names, thread_bit, times_called, times_sent}
use Rattle.machine.specs.WellFormed.{AreRows, IsUntold}
use Rattle.machine.specs.declared.state.State.{State}
use Rattle.move_laws.proofs.Lists.Contents.{contains_total, total_some}
use Rattle.move_laws.proofs.Lists.Partition.{below, below_at_least, below_at_most, below_rows, parted}
use Rattle.move_laws.proofs.References.Same.{if_is}
use Rattle.move_laws.proofs.RowLaws.Locks.{thread_inside}
use Rattle.move_laws.proofs.RowLaws.Messages.{called_is, messages-accepted, sent_is}

-- 1 for a message that was sent with a status, and for one whose end its client waits for
abbrev async_bit_of : Way → ℕ
async_bit_of (Async s) = 1
async_bit_of Sync = 0
async_bit_of Disconnect = 0

abbrev sync_bit_of : Way → ℕ
sync_bit_of (Async s) = 0
sync_bit_of Sync = 1
sync_bit_of Disconnect = 0

abbrev disconnect_bit : Message → ℕ
disconnect_bit message = disconnect_bit_of message.row.way

abbrev async_bit : Message → ℕ
async_bit message = async_bit_of message.row.way

abbrev sync_bit : Message → ℕ
sync_bit message = sync_bit_of message.row.way

one_bit : (way : Way) → async_bit_of way + sync_bit_of way + disconnect_bit_of way ≡ 1
one_bit (Async s) = refl
one_bit _ = refl

each_one : (xs : List Message) → length xs ≡ total async_bit xs + total sync_bit xs + total disconnect_bit xs
each_one [] = refl
each_one (x ∷ xs) = let a = one_bit x.row.way in let b = each_one xs in omega arith

abbrev numbered : ℕ → ObjNo
numbered k = record { 0 = k }

-- the number of a session is one of the list's
session_inside : (sessions : List (Option SessionRow)) (k : ℕ) → is_some (get_or sessions k None) ≡ true → k < length sessions
session_inside [] k there = absurd (cc)
session_inside (x ∷ xs) zero there = omega arith
session_inside (x ∷ xs) (suc k) there = let r = session_inside xs k there in omega arith

module _ (A : ObjNo → ℕ → Type 0) (below16 : (u : ObjNo) (s : ℕ) → A u s → s < 16) (threads : List (Option ThreadRow))
    (servers : ServerRows) (r : MessageRows) (h : AreMessages A threads servers r) where
  -- a message that a thread has a part in has that thread as its client, which is there
  no_client : (k : ℕ) (f : Message → ℕ) → is_some (get_or threads k None) ≡ false
      → ((message : Message) → 0 < f message → message.row.client.0 ≡ k) → total f r.outstanding ≡ 0
  no_client k f none own = elim (cases_lt 0 (total f r.outstanding)) as (λ _. total f r.outstanding ≡ 0) [
    | inl some ↦
        let one = total_some f r.outstanding some in
        let there : is_some (get_or threads k None)
        ≡ true = ap (λ (n : ℕ). is_some (get_or threads n None)) (sym (own one.0 one.2)) ∙ h.clients one.0 one.1 in
        absurd (cc)
    | inr nothing ↦ omega arith
  ]

  client_bit : (k : ℕ) (f : Message → ℕ) → total f r.outstanding ≤ 1
      → ((message : Message) → 0 < f message → message.row.client.0 ≡ k)
      → total f r.outstanding ≤ thread_bit (get_or threads k None)
  client_bit k f few own = by (is_some (get_or threads k None)) refl
    where
      by : (b : Bool) → is_some (get_or threads k None) ≡ b → total f r.outstanding ≤ (if b then 1 else 0)
      by true is = few
      by false is = let none = no_client k f is own in omega arith

  sent_own : (k s : ℕ) (message : Message) → 0 < sent_names (numbered k) s message → message.row.client.0 ≡ k
  sent_own k s message some = ap (λ (u : ObjNo). u.0) (sent_is (numbered k) s message.row.client message.row.way some).0

  called_own : (k : ℕ) (message : Message) → 0 < call_names (numbered k) message → message.row.client.0 ≡ k
  called_own k message some = ap (λ (u : ObjNo). u.0) (called_is (numbered k) message.row.client message.row.way some).0

  -- the messages that one thread sent with statuses
  abbrev sent_by : ℕ → Message → ℕ
  sent_by k message = below 16 (λ s. sent_names (numbered k) s message)

  sent_few : (k : ℕ) → total (sent_by k) r.outstanding ≤ 16 * thread_bit (get_or threads k None)
  sent_few k =
      let a = parted (sent_by k) (λ s message. sent_names (numbered k) s message) 16 r.outstanding (λ x there. omega arith) in
      let b = below_at_most 16 (λ s. times_sent r.outstanding (numbered k) s) (thread_bit (get_or threads k None))
      (λ s. client_bit k (sent_names (numbered k) s) (h.sent (numbered k) s) (sent_own k s)) in
      omega arith

  client_inside : (message : Message) → Contains r.outstanding message → message.row.client.0 < length threads
  client_inside message there = thread_inside threads message.row.client.0 (h.clients message there)

  -- a message with a status is one of those of its client
  sent_counted : (message : Message) (way : Way) → message.row.way ≡ way → Contains r.outstanding message
      → async_bit_of way ≤ below (length threads) (λ k. sent_by k message)
  sent_counted message (Async s) is there =
      let client = message.row.client in
      let test : is_sent client s client (Async s) ≡ true = rw (eq-eqb client.0 client.0 refl, eq-eqb s s refl) refl in
      let one : sent_names client s message ≡ 1 = ap (λ (way : Way). if is_sent client s client way then 1 else 0) is
      ∙ ap (λ (b : Bool). if b then 1 else 0) test in
      let some = contains_total (sent_names client s) r.outstanding message there in
      let small = below16 client s (h.awaited client s (omega arith)) in
      let a = below_at_least 16 (λ j. sent_names client j message) s small in
      let b = below_at_least (length threads) (λ k. sent_by k message) client.0 (client_inside message there) in omega arith
  sent_counted message Sync is there = omega arith
  sent_counted message Disconnect is there = omega arith

  call_counted : (message : Message) (way : Way) → message.row.way ≡ way → Contains r.outstanding message
      → sync_bit_of way ≤ below (length threads) (λ k. call_names (numbered k) message)
  call_counted message Sync is there =
      let client = message.row.client in
      let one : call_names client message ≡ 1 = ap (λ (way : Way). if is_called client client way then 1 else 0) is
      ∙ ap (λ (b : Bool). if b then 1 else 0) (eq-eqb client.0 client.0 refl) in
      let b = below_at_least (length threads) (λ k. call_names (numbered k) message) client.0 (client_inside message there) in omega arith
  call_counted message (Async s) is there = omega arith
  call_counted message Disconnect is there = omega arith

  -- a message that disconnects is one of those of its session
  disconnect_counted : (n : ℕ) (message : Message) → message.row.session.0 < n → disconnect_bit message ≤ below n (λ k. disconnects_of (numbered k) message)
  disconnect_counted n message inside =
      let session = message.row.session in
      let one = if_is (session.0 == session.0) (disconnect_bit message) (eq-eqb session.0 session.0 refl) in
      let b = below_at_least n (λ k. disconnects_of (numbered k) message) session.0 inside in omega arith

  -- and each session has one at most
  disconnects_few : (n : ℕ) → length servers.sessions ≡ n → total disconnect_bit r.outstanding ≤ n
  disconnects_few n sized =
      let a = parted disconnect_bit (λ k message. disconnects_of (numbered k) message) n r.outstanding
      (λ x there. disconnect_counted n x (let a = session_inside servers.sessions x.row.session.0 (h.sessions x there) in omega arith)) in
      let b = below_at_most n (λ k. total (disconnects_of (numbered k)) r.outstanding) 1 (λ k. let a = h.closed (numbered k) in omega arith) in omega arith

  -- all three kinds together
  pub messages_few : length servers.sessions ≡ OBJECTS → length r.outstanding ≤ 5184
  messages_few sized =
      let all = each_one r.outstanding in
      let threads_few = h.threads_few in
      let a = parted async_bit sent_by (length threads) r.outstanding (λ x there. sent_counted x x.row.way refl there) in
      let b = below_rows 16 thread_bit (λ k. total (sent_by k) r.outstanding) threads None sent_few in
      let c = parted sync_bit (λ k message. call_names (numbered k) message) (length threads) r.outstanding (λ x there. call_counted x x.row.way refl there) in
      let d = below_rows 1 thread_bit (λ k. times_called r.outstanding (numbered k)) threads None
      (λ k. let e = client_bit k (call_names (numbered k)) (h.called (numbered k)) (called_own k) in omega arith) in
      let e = disconnects_few OBJECTS sized in omega arith

-- fewer messages than that are outstanding where one more may be accepted
pub room_for_message : (script : Script) (S : State) (slots : Slots) (row : MsgRow) → MayAccept S row → AreRows script S
    → length S.serving.messages.outstanding < 5184
room_for_message script S slots row may rows =
    let accepted = messages-accepted S slots row may rows.serving.messages in
    let few = messages_few (IsUntold S.synchronization.requests S.synchronization.logons)
    (λ u s untold. untold.0.status) S.references.threads S.serving.servers
    (added S.serving.messages slots row) accepted rows.serving.servers.sessions_sized in
    let more = length_push S.serving.messages.outstanding (record { number = next_number S.serving.messages; slots = slots; row = row }) in omega arith
