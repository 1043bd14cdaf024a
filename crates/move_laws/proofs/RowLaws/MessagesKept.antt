-- The rows of messages, where the rows of threads, of sessions or of requests change.
use Rattle.std.proofs.Common.{◌≡◌, ℕ, ◌*◌, ◌<◌, ◌≤◌, true, List, length, get_or, set, arith, refl, sym, ap, subst, ◌∙◌, Option, Some, None, inl, inr}
use Rattle.std.specs.Prelude.{Contains, is_some, option_map}
use Rattle.std.proofs.lemmas.Bool.{cases_lt}
use Rattle.std.proofs.lemmas.List.{get_or-set_other, set_past}
use Rattle.sym_base.specs.declared.limits.TheConstants.Limits.{THREADS, THREAD_INSTRUCTIONS}
use Rattle.sym_base.specs.declared.number.ObjNo.{ObjNo}
use Rattle.entry_log.specs.declared.step.Part.{Part}
use Rattle.entry_log.specs.declared.step.Part.TheVariants as part
use Rattle.state_rows.specs.ServerRows.{IsSession}
use Rattle.state_rows.specs.declared.messages.Message.{Message}
use Rattle.state_rows.specs.declared.messages.MessageRows.{MessageRows}
use Rattle.state_rows.specs.declared.servers.ServerRows.{ServerRows}
use Rattle.state_rows.specs.declared.thread.Stage.TheVariants.{Live}
use Rattle.state_rows.specs.declared.thread.ThreadRow.{ThreadRow}
use Rattle.state_rows.specs.declared.thread.Waiting.TheVariants as waiting
use Rattle.state_rows.proofs.SoundChanges.{set_item}
use Rattle.machine.specs.References.{total, message_names}
use Rattle.machine.specs.Rows.{with_row}
use Rattle.machine.specs.Serving.{AreMessages, begun, numbers_left, numbers_used, thread_bit, times_called, times_closed, times_sent}
use Rattle.move_laws.proofs.Lists.Totals.{total-set, total-with, total_at_least}
use Rattle.move_laws.proofs.References.Counts.{is_some-with_row}
use Rattle.move_laws.proofs.References.Same.{same_object, same_self}
use Rattle.move_laws.proofs.RowLaws.Threads.{was_row}

-- other rows of threads: each client is there, whoever waits for an end waits still, and no more threads are there
pub messages-threads : (A : ObjNo → ℕ → Type 0) (threads other : List (Option ThreadRow)) (servers : ServerRows)
    (r : MessageRows)
    → ((message : Message) → Contains r.outstanding message → is_some (get_or threads message.row.client.0 None) ≡ true
    → is_some (get_or other message.row.client.0 None) ≡ true)
    → ((u : ObjNo) (row : ThreadRow) → 0 < times_called r.outstanding u → get_or other u.0 None ≡ Some row → row.stage
    ≡ Live → row.waiting ≡ waiting.Reply)
    → total thread_bit other ≤ THREADS → total numbers_left other ≤ total numbers_left threads
    → AreMessages A threads servers r → AreMessages A other servers r
messages-threads A threads other servers r clients replies threads_few left h = record {
  objects = h.objects;
  rising = h.rising;
  given = h.given;
  sessions = h.sessions;
  clients = λ message among. clients message among (h.clients message among);
  sent = h.sent;
  awaited = h.awaited;
  called = h.called;
  replies = replies;
  closed = h.closed;
  threads_few = threads_few;
  numbered = let a = h.numbered in omega arith;
}

some_bit : (f : ThreadRow → ThreadRow) (x : Option ThreadRow) → thread_bit (option_map f x) ≡ thread_bit x
some_bit f None = refl
some_bit f (Some row) = refl

-- a row changes, which leaves a wait for an end as it is
pub messages-with_row : (A : ObjNo → ℕ → Type 0) (threads : List (Option ThreadRow)) (servers : ServerRows)
    (r : MessageRows) (u : ObjNo) (f : ThreadRow → ThreadRow)
    → ((row : ThreadRow) → get_or threads u.0 None ≡ Some row → 0 < times_called r.outstanding u
    → (row.stage ≡ Live → row.waiting ≡ waiting.Reply) → (f row).stage ≡ Live → (f row).waiting ≡ waiting.Reply)
    → total numbers_left (with_row threads u f) ≤ total numbers_left threads → AreMessages A threads servers r
    → AreMessages A (with_row threads u f) servers r
messages-with_row A threads servers r u f waits left h = messages-threads A threads (with_row threads u f) servers r
    (λ message among there. is_some-with_row threads u f message.row.client ∙ there)
    (λ v row called is. was_row threads u f
    (λ (k : ℕ) (y : ThreadRow). 0 < times_called r.outstanding (record { 0 = k }) → y.stage ≡ Live → y.waiting
    ≡ waiting.Reply)
    (λ old was now. waits old was now (h.replies u old now was)) (λ k old was now. h.replies (record { 0 = k }) old now was) v.0 row is called)
    (let a = total-with thread_bit (option_map f) None threads u.0 refl in
    let b = some_bit f (get_or threads u.0 None) in let c = h.threads_few in omega arith) left h

-- a row changes that counts no more than before
fewer_map : (q : Option ThreadRow → ℕ) (f : ThreadRow → ThreadRow) (x : Option ThreadRow)
    → ((row : ThreadRow) → x ≡ Some row → q (Some (f row)) ≤ q (Some row)) → q (option_map f x) ≤ q x
fewer_map q f None fewer = omega arith
fewer_map q f (Some row) fewer = fewer row refl

pub fewer-with_row : (q : Option ThreadRow → ℕ) (threads : List (Option ThreadRow)) (u : ObjNo)
    (f : ThreadRow → ThreadRow)
    → ((row : ThreadRow) → get_or threads u.0 None ≡ Some row → q (Some (f row)) ≤ q (Some row))
    → total q (with_row threads u f) ≤ total q threads
fewer-with_row q threads u f fewer =
    let a = total-with q (option_map f) None threads u.0 refl in
    let b = fewer_map q f (get_or threads u.0 None) fewer in
    omega arith

-- an instruction's last step is one
pub begun_one : (p : Option Part) → begun p ≤ 1
begun_one (Some part.Done) = omega arith
begun_one _ = omega arith

-- a row changes that brings nobody back to life, and goes back to no step
pub record KeepsMessages (f : ThreadRow → ThreadRow) : Type 0 where
  pub live : (row : ThreadRow) → (f row).stage ≡ Live → row.stage ≡ Live
  pub waits : (row : ThreadRow) → (f row).stage ≡ Live → (f row).waiting ≡ row.waiting
  pub left : (row : ThreadRow) → numbers_left (Some (f row)) ≤ numbers_left (Some row)

pub messages-kept : (A : ObjNo → ℕ → Type 0) (threads : List (Option ThreadRow)) (servers : ServerRows)
    (r : MessageRows) (u : ObjNo) (f : ThreadRow → ThreadRow)
    → KeepsMessages f → AreMessages A threads servers r → AreMessages A (with_row threads u f) servers r
messages-kept A threads servers r u f keeps h =
    messages-with_row A threads servers r u f
    (λ row is called was live. keeps.waits row live ∙ was (keeps.live row live))
    (fewer-with_row numbers_left threads u f (λ row is. keeps.left row)) h

-- a thread's row goes that no message names
pub messages-swept : (A : ObjNo → ℕ → Type 0) (threads : List (Option ThreadRow)) (servers : ServerRows)
    (r : MessageRows) (o : ObjNo)
    → total (message_names o) r.outstanding ≡ 0 → AreMessages A threads servers r
    → AreMessages A (set threads o.0 None) servers r
messages-swept A threads servers r o unnamed h = messages-threads A threads (set threads o.0 None) servers r
    (λ message among there. ap is_some (get_or-set_other threads o.0 message.row.client.0 None None (apart message among)) ∙ there)
    (λ v row called is. h.replies v row called
    (set_item (λ (x : Option ThreadRow). x ≡ Some row → get_or threads v.0 None ≡ Some row) threads o.0 v.0 None None
    (λ at e. absurd (cc)) (λ e. e) is))
    (let a = fewer thread_bit refl in let b = h.threads_few in omega arith) (fewer numbers_left refl) h
  where
    apart : (message : Message) → Contains r.outstanding message → message.row.client.0 ≡ o.0 → ⊥
    apart message among at =
        let named : message_names o (get_or r.outstanding among.0 message) ≡ message_names o message = ap (message_names o) among.2 in
        let most = total_at_least (message_names o) r.outstanding among.0 message among.1 in
        let one = subst (λ (x : ObjNo). message_names x message ≡ 0) (sym (same_object message.row.client o at))
        (let a : message_names o message ≡ 0 = omega arith in a) in
        let self = same_self message.row.client in omega arith

    fewer : (q : Option ThreadRow → ℕ) → q None ≡ 0 → total q (set threads o.0 None) ≤ total q threads
    fewer q none = elim (cases_lt o.0 (length threads)) as (λ _. total q (set threads o.0 None) ≤ total q threads) [
      | inl there ↦ let a = total-set q threads o.0 None None there in omega arith
      | inr past ↦ let same = ap (total q) (set_past threads o.0 None past) in omega arith
    ]

-- other rows of requests and logons, in which the statuses of messages are awaited
pub messages-awaited : (A B : ObjNo → ℕ → Type 0) (threads : List (Option ThreadRow)) (servers : ServerRows)
    (r : MessageRows)
    → ((u : ObjNo) (s : ℕ) → 0 < times_sent r.outstanding u s → A u s → B u s) → AreMessages A threads servers r
    → AreMessages B threads servers r
messages-awaited A B threads servers r still h = record {
  objects = h.objects;
  rising = h.rising;
  given = h.given;
  sessions = h.sessions;
  clients = h.clients;
  sent = h.sent;
  awaited = λ u s some. still u s some (h.awaited u s some);
  called = h.called;
  replies = h.replies;
  closed = h.closed;
  threads_few = h.threads_few;
  numbered = h.numbered;
}

-- other rows of sessions, of which none is to be closed that wasn't
pub messages-sessions : (A : ObjNo → ℕ → Type 0) (threads : List (Option ThreadRow)) (servers new : ServerRows)
    (r : MessageRows)
    → ((message : Message) → Contains r.outstanding message → IsSession servers message.row.session → IsSession new message.row.session)
    → ((s : ObjNo) → times_closed new r.outstanding s ≤ 1)
    → numbers_used threads new r ≤ 2 * THREAD_INSTRUCTIONS * THREADS → AreMessages A threads servers r
    → AreMessages A threads new r
messages-sessions A threads servers new r known closed numbered h = record {
  objects = h.objects;
  rising = h.rising;
  given = h.given;
  sessions = λ message among. known message among (h.sessions message among);
  clients = h.clients;
  sent = h.sent;
  awaited = h.awaited;
  called = h.called;
  replies = h.replies;
  closed = closed;
  threads_few = h.threads_few;
  numbered = numbered;
}
