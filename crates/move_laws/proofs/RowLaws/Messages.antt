-- The rows of messages, where one is accepted, taken or finished.
use Rattle.std.proofs.Common.{◌≡◌, inl, inr, ℕ, ◌+◌, ◌<◌, ◌≤◌, Bool, true, false, List, [], ◌∷◌, map, get_or, arith, refl, sym, subst, ap, ◌∙◌, Option, Some, None}
use Rattle.std.specs.Prelude.{◌==◌, if◌then◌else◌, is_some, not}
use Rattle.std.proofs.lemmas.Bool.{and_parts, cases_eq, cases_lt, eqb-true}
use Rattle.std.proofs.lemmas.List.Elements.{Contains-push_cases}
use Rattle.sym_base.specs.declared.kind.Slots.{Slots}
use Rattle.sym_base.specs.declared.number.MsgNo.{MsgNo}
use Rattle.sym_base.specs.declared.number.ObjNo.{ObjNo}
use Rattle.state_rows.specs.MessageChanges.{added, after_finish, after_take, edited, next_number, next_of, taken, taken_row, with_edited}
use Rattle.state_rows.specs.MessageRows.{has_number}
use Rattle.state_rows.specs.ServerRows.{IsSession}
use Rattle.state_rows.specs.declared.messages.Message.{Message}
use Rattle.state_rows.specs.declared.messages.MessageRows.{MessageRows}
use Rattle.state_rows.specs.declared.messages.MsgRow.{MsgRow}
use Rattle.state_rows.specs.declared.messages.Way.{Way}
use Rattle.state_rows.specs.declared.messages.Way.TheVariants.{Async, Sync, Disconnect}
use Rattle.state_rows.specs.declared.servers.ServerRows.{ServerRows}
use Rattle.state_rows.specs.declared.thread.ThreadRow.{ThreadRow}
use Rattle.state_rows.specs.declared.thread.Waiting.TheVariants as waiting
use Rattle.machine.specs.FitsServers.{FitsWay, IsClosed, MayAccept}
use Rattle.machine.specs.References.{total}
use Rattle.machine.specs.Rows.{thread_of}
use Rattle.machine.specs.Serving.{AreMessages, call_names, disconnect_bit_of, disconnects_of, is_called, is_sent, sent_names, times_called, times_closed, times_sent}
use Rattle.machine.specs.WellFormed.{IsUntold}
use Rattle.machine.specs.declared.state.State.{State}
use Rattle.move_laws.proofs.Lists.Contents.{contains_filter, contains_map, total-map}
use Rattle.move_laws.proofs.Lists.Totals.{total-append, total-filter}
use Rattle.move_laws.proofs.References.Same.{eqb_apart, if_le, if_not, if_zero, same_object}
use Rattle.move_laws.proofs.RowLaws.Rising.{edited-value, rising-filter, rising-map, rising-push}

-- who sent a message in which way
pub sent_is : (u : ObjNo) (s : ℕ) (client : ObjNo) (way : Way) → 0 < (if is_sent u s client way then 1 else 0) → (client ≡ u) × (way ≡ Async s)
sent_is u s client (Async status) some = by (is_sent u s client (Async status)) refl some
  where
    by : (b : Bool) → is_sent u s client (Async status) ≡ b → 0 < (if b then 1 else 0) → (client ≡ u) × (Async status ≡ Async s)
    by true is some = let parts = and_parts (client.0 == u.0) (status == s) is in
        (same_object client u (eqb-true client.0 u.0 parts.0), ap (λ (n : ℕ). Async n) (eqb-true status s parts.1))
    by false is some = absurd (omega arith)
sent_is u s client Sync some = absurd (omega arith)
sent_is u s client Disconnect some = absurd (omega arith)

pub called_is : (u client : ObjNo) (way : Way) → 0 < (if is_called u client way then 1 else 0) → (client ≡ u) × (way ≡ Sync)
called_is u client Sync some = by (client.0 == u.0) refl some
  where
    by : (b : Bool) → (client.0 == u.0) ≡ b → 0 < (if b then 1 else 0) → (client ≡ u) × (Sync ≡ Sync)
    by true is some = (same_object client u (eqb-true client.0 u.0 is), refl)
    by false is some = absurd (omega arith)
called_is u client (Async status) some = absurd (omega arith)
called_is u client Disconnect some = absurd (omega arith)

-- a message that disconnects a session comes once that is closed
room_for : (S : State) (u session : ObjNo) (way : Way) → FitsWay u session way S → (s : ObjNo)
    → times_closed S.serving.servers S.serving.messages.outstanding s ≤ 1
    → times_closed S.serving.servers S.serving.messages.outstanding s
    + (if session.0 == s.0 then disconnect_bit_of way else 0) ≤ 1
room_for S u session (Async status) fits s few = let a = if_zero (session.0 == s.0) 0 refl in omega arith
room_for S u session Sync fits s few = let a = if_zero (session.0 == s.0) 0 refl in omega arith
room_for S u session Disconnect fits s few =
    elim (cases_eq session.0 s.0) as (λ _. times_closed S.serving.servers S.serving.messages.outstanding s
    + (if session.0 == s.0 then 1 else 0) ≤ 1) [
      | inl at ↦ let closed = subst (IsClosed S) (same_object session s at) fits in let a = if_le (session.0 == s.0) 1 in omega arith
      | inr apart ↦ let a = if_not (session.0 == s.0) 1 (eqb_apart session.0 s.0 apart) in omega arith
    ]

abbrev accepted_row : State → Slots → MsgRow → Message
accepted_row S slots row = record { number = next_number S.serving.messages; slots = slots; row = row }

-- a message is accepted
pub messages-accepted : (S : State) (slots : Slots) (row : MsgRow) → MayAccept S row
    → AreMessages (IsUntold S.synchronization.requests S.synchronization.logons) S.references.threads S.serving.servers
    S.serving.messages
    → AreMessages (IsUntold S.synchronization.requests S.synchronization.logons) S.references.threads S.serving.servers
    (added S.serving.messages slots row)
messages-accepted S slots row may h = record {
  objects = h.objects;
  rising = rising-push S.serving.messages.outstanding new (λ x there. let a = h.given x there in omega arith) h.rising;
  given =
      λ message there. elim (Contains-push_cases S.serving.messages.outstanding new message there) as
      (λ _. message.number.0 ≤ S.serving.messages.accepted + 1) [
        | inl was ↦ let a = h.given message was in omega arith
        | inr own ↦ let a : message.number.0 ≡ S.serving.messages.accepted + 1 = ap (λ (z : Message). z.number.0) (sym own) in omega arith
      ];
  sessions =
      λ message there. elim (Contains-push_cases S.serving.messages.outstanding new message there) as
      (λ _. IsSession S.serving.servers message.row.session) [
        | inl was ↦ h.sessions message was
        | inr own ↦ subst (λ (z : Message). IsSession S.serving.servers z.row.session) own may.known
      ];
  clients =
      λ message there. elim (Contains-push_cases S.serving.messages.outstanding new message there) as
      (λ _. is_some (get_or S.references.threads message.row.client.0 None) ≡ true) [
        | inl was ↦ h.clients message was
        | inr own ↦ subst (λ (z : Message). is_some (get_or S.references.threads z.row.client.0 None) ≡ true) own may.thread
      ];
  sent = λ u s. let a = sent_more u s in let b = h.sent u s in let c = if_le (is_sent u s row.client row.way) 1 in
      elim (cases_lt 0 (sent_names u s new)) as (λ _. times_sent (added S.serving.messages slots row).outstanding u s ≤ 1) [
        | inl one ↦ let none = (fits_sent u s one).1 in omega arith
        | inr no_name ↦ omega arith
      ];
  awaited = λ u s some. let a = sent_more u s in
      elim (cases_lt 0 (sent_names u s new)) as (λ _. IsUntold S.synchronization.requests S.synchronization.logons u s) [
        | inl one ↦ (fits_sent u s one).0
        | inr no_name ↦ h.awaited u s (omega arith)
      ];
  called = λ u. let a = called_more u in let b = h.called u in let c = if_le (is_called u row.client row.way) 1 in
      elim (cases_lt 0 (call_names u new)) as (λ _. times_called (added S.serving.messages slots row).outstanding u ≤ 1) [
        | inl one ↦ let none = (fits_called u one).0 in omega arith
        | inr no_name ↦ omega arith
      ];
  replies = λ u thread some is live. let a = called_more u in
      elim (cases_lt 0 (call_names u new)) as (λ _. thread.waiting ≡ waiting.Reply) [
        | inl one ↦ (fits_called u one).1 thread is
        | inr no_name ↦ h.replies u thread (omega arith) is live
      ];
  closed = λ s.
      let a = total-append (disconnects_of s) S.serving.messages.outstanding (new ∷ []) in
      let b = room_for S row.client row.session row.way may.way s (h.closed s) in omega arith;
  threads_few = h.threads_few;
  numbered = let a = may.number in omega arith;
}
  where
    new : Message
    new = accepted_row S slots row

    sent_more : (u : ObjNo) (s : ℕ) → times_sent (added S.serving.messages slots row).outstanding u s
        ≡ times_sent S.serving.messages.outstanding u s + sent_names u s new
    sent_more u s = let a = total-append (sent_names u s) S.serving.messages.outstanding (new ∷ []) in omega arith

    called_more : (u : ObjNo) → times_called (added S.serving.messages slots row).outstanding u
        ≡ times_called S.serving.messages.outstanding u + call_names u new
    called_more u = let a = total-append (call_names u) S.serving.messages.outstanding (new ∷ []) in omega arith

    fits_sent : (u : ObjNo) (s : ℕ) → 0 < sent_names u s new
        → IsUntold S.synchronization.requests S.synchronization.logons u s
        × (times_sent S.serving.messages.outstanding u s ≡ 0)
    fits_sent u s one = let own = sent_is u s row.client row.way one in
        subst (λ (v : ObjNo). FitsWay v row.session (Async s) S) own.0 (subst (λ (way : Way). FitsWay row.client row.session way S) own.1 may.way)

    fits_called : (u : ObjNo) → 0 < call_names u new → (times_called S.serving.messages.outstanding u ≡ 0)
        × ((thread : ThreadRow) → thread_of S u ≡ Some thread → thread.waiting ≡ waiting.Reply)
    fits_called u one = let own = called_is u row.client row.way one in
        subst (λ (v : ObjNo). FitsWay v row.session Sync S) own.0 (subst (λ (way : Way). FitsWay row.client row.session way S) own.1 may.way)

-- a message changes, but for its session, its client and its way
module _ (A : ObjNo → ℕ → Type 0) (threads : List (Option ThreadRow)) (servers : ServerRows) (r : MessageRows)
    (m : MsgNo) (change : MsgRow → MsgRow) (session : (row : MsgRow) → (change row).session ≡ row.session)
    (client : (row : MsgRow) → (change row).client ≡ row.client) (way : (row : MsgRow) → (change row).way ≡ row.way) where
  -- so does what is read off these
  pub edited-total : (f : Message → ℕ)
      → ((message : Message) → f (record message { row = change message.row }) ≡ f message)
      → total f (map (edited m change) r.outstanding) ≡ total f r.outstanding
  edited-total f keeps = total-map f f (edited m change) r.outstanding (λ x. edited-value f m change x (keeps x))

  pub messages-edited : AreMessages A threads servers r → AreMessages A threads servers (with_edited r m change)
  messages-edited h = record {
    objects = h.objects;
    rising = rising-map (edited m change) r.outstanding (λ x. edited-value (λ (z : Message). z.number) m change x refl) h.rising;
    given = λ message there.
        let was = contains_map (edited m change) r.outstanding message there in
        subst (λ (n : MsgNo). n.0 ≤ r.accepted)
        (sym (edited-value (λ (z : Message). z.number) m change was.0 refl) ∙ ap (λ (z : Message). z.number) was.2)
        (h.given was.0 was.1);
    sessions = λ message there.
        let was = contains_map (edited m change) r.outstanding message there in
        subst (λ (s : ObjNo). IsSession servers s)
        (sym (edited-value (λ (z : Message). z.row.session) m change was.0 (session was.0.row))
        ∙ ap (λ (z : Message). z.row.session) was.2) (h.sessions was.0 was.1);
    clients = λ message there.
        let was = contains_map (edited m change) r.outstanding message there in
        subst (λ (u : ObjNo). is_some (get_or threads u.0 None) ≡ true)
        (sym (edited-value (λ (z : Message). z.row.client) m change was.0 (client was.0.row))
        ∙ ap (λ (z : Message). z.row.client) was.2) (h.clients was.0 was.1);
    sent = λ u s. let a = sent u s in let b = h.sent u s in omega arith;
    awaited = λ u s some. let a = sent u s in h.awaited u s (omega arith);
    called = λ u. let a = called u in let b = h.called u in omega arith;
    replies = λ u row some is live. let a = called u in h.replies u row (omega arith) is live;
    closed = λ s.
        let a = edited-total (disconnects_of s)
        (λ x. ap (λ (y : ObjNo). if y.0 == s.0 then disconnect_bit_of (change x.row).way else 0) (session x.row)
        ∙ ap (λ (w : Way). if x.row.session.0 == s.0 then disconnect_bit_of w else 0) (way x.row)) in
        let b = h.closed s in omega arith;
    threads_few = h.threads_few;
    numbered = h.numbered;
  }
    where
      sent : (u : ObjNo) (s : ℕ) → times_sent (map (edited m change) r.outstanding) u s ≡ times_sent r.outstanding u s
      sent u s = edited-total (sent_names u s)
          (λ x. ap (λ (v : ObjNo). if is_sent u s v (change x.row).way then 1 else 0) (client x.row)
          ∙ ap (λ (w : Way). if is_sent u s x.row.client w then 1 else 0) (way x.row))

      called : (u : ObjNo) → times_called (map (edited m change) r.outstanding) u ≡ times_called r.outstanding u
      called u = edited-total (call_names u) (λ x. ap (λ (v : ObjNo). if is_called u v (change x.row).way then 1 else 0)
          (client x.row) ∙ ap (λ (w : Way). if is_called u x.row.client w then 1 else 0) (way x.row))

-- a message is taken
pub messages-taken : (A : ObjNo → ℕ → Type 0) (threads : List (Option ThreadRow)) (servers : ServerRows)
    (r : MessageRows) (o : ObjNo)
    → AreMessages A threads servers r → AreMessages A threads servers (after_take r o)
messages-taken A threads servers r o h = by (next_of r o)
  where
    by : (m : Option MsgNo) → AreMessages A threads servers (taken r m)
    by None = h
    by (Some m) = messages-edited A threads servers r m taken_row (λ row. refl) (λ row. refl) (λ row. refl) h

-- a message is finished
pub messages-finished : (A : ObjNo → ℕ → Type 0) (threads : List (Option ThreadRow)) (servers : ServerRows)
    (r : MessageRows) (m : MsgNo)
    → AreMessages A threads servers r → AreMessages A threads servers (after_finish r m)
messages-finished A threads servers r m h = record {
  objects = h.objects;
  rising = rising-filter others r.outstanding h.rising;
  given = λ message there. h.given message (contains_filter others r.outstanding message there);
  sessions = λ message there. h.sessions message (contains_filter others r.outstanding message there);
  clients = λ message there. h.clients message (contains_filter others r.outstanding message there);
  sent = λ u s. let a = total-filter (sent_names u s) others r.outstanding in let b = h.sent u s in omega arith;
  awaited = λ u s some. let a = total-filter (sent_names u s) others r.outstanding in h.awaited u s (omega arith);
  called = λ u. let a = total-filter (call_names u) others r.outstanding in let b = h.called u in omega arith;
  replies = λ u row some is live. let a = total-filter (call_names u) others r.outstanding in h.replies u row (omega arith) is live;
  closed = λ s. let a = total-filter (disconnects_of s) others r.outstanding in let b = h.closed s in omega arith;
  threads_few = h.threads_few;
  numbered = h.numbered;
}
  where
    others : Message → Bool
    others message = not (has_number m message)
