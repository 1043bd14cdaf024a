-- At boot there is no server, no session and no message.
use Rattle.std.proofs.Common.{◌≡◌, ℕ, ◌*◌, ◌≤◌, suc, zero, List, [], ◌∷◌, map, replicate, arith, refl, sym, ap, ◌∙◌, Option, Some, None, Bool, true}
use Rattle.std.specs.Prelude.{is_some}
use Rattle.std.proofs.lemmas.List.{length-map, length-replicate}
use Rattle.sym_base.specs.declared.limits.TheConstants.Limits.{OBJECTS}
use Rattle.sym_base.specs.declared.number.ObjNo.{ObjNo}
use Rattle.script_types.specs.declared.script.Script.{Script}
use Rattle.script_types.specs.Shape.{IsShaped}
use Rattle.state_rows.specs.MessageChanges.{no_messages}
use Rattle.state_rows.specs.ServerChanges.{no_rows}
use Rattle.state_rows.specs.ServerRows.{IsServer, holds, link_of, linked_at, server_of, session_at}
use Rattle.state_rows.specs.declared.locks.LockRows.{LockRows}
use Rattle.state_rows.specs.declared.object.ObjectRow.{ObjectRow}
use Rattle.state_rows.specs.declared.servers.ServerRow.{ServerRow}
use Rattle.state_rows.specs.declared.servers.SessionRow.{SessionRow}
use Rattle.state_rows.specs.declared.thread.ThreadRow.{ThreadRow}
use Rattle.machine.specs.declared.boot.Born.{Born}
use Rattle.machine.specs.Boot.{born}
use Rattle.machine.specs.References.{mutex_names, total}
use Rattle.machine.specs.Serving.{AreMessages, AreServers, numbers_left, open_bit, thread_bit, times_owned, unclosed_bit}
use Rattle.move_laws.proofs.Lists.Contents.{none_contained}
use Rattle.move_laws.proofs.Lists.Copies.{copy_at}
use Rattle.machine_laws.proofs.AtBoot.BootLocks.{nothing_at}
use Rattle.machine_laws.proofs.AtBoot.BootThreads.{threads_few}

pub total-replicate : {A : Type 0} (f : A → ℕ) (x : A) (n : ℕ) → f x ≡ 0 → total f (replicate n x) ≡ 0
total-replicate f x zero h = refl
total-replicate f x (suc n) h = let r = total-replicate f x n h in omega arith

pub no_session : (n : ℕ) (s : ObjNo) → session_at (no_rows n) s ≡ None
no_session n s = copy_at {A = Option SessionRow} None n s.0

no_server : (n : ℕ) (o : ObjNo) → IsServer (no_rows n) o → ⊥
no_server n o is = let none = ap is_some (copy_at {A = Option ServerRow} None n o.0) in cc

no_link : (n : ℕ) (s o : ObjNo) → server_of (no_rows n) s ≡ Some o → ⊥
no_link n s o is = let none = ap link_of (no_session n s) in cc

none_linked : (n : ℕ) (o : ObjNo) → linked_at (no_rows n) o ≡ []
none_linked n o = copy_at {A = List ObjNo} [] n o.0

none_among : (n : ℕ) (s o : ObjNo) → holds s (linked_at (no_rows n) o) ≡ true → ⊥
none_among n s o among = let none = ap (holds s) (none_linked n o) in cc

none_owned : (bs : List Born) (t o : ObjNo) → times_owned (map (λ _. []) bs) t o ≡ 0
none_owned bs t o = nothing_at bs (λ (l : List ObjNo). total (mutex_names o) l ≡ 0) t.0 refl

pub rows_of_servers-boot : (spent : ThreadRow → Bool) (objects : List (Option ObjectRow)) (n : ℕ) (locks : LockRows) (bs : List Born) → n ≡ OBJECTS
    → AreServers spent objects (map (λ b. b.thread) bs) locks (map (λ _. []) bs) (no_rows n)
rows_of_servers-boot spent objects n locks bs size = record {
  servers_sized = length-replicate {A = Option ServerRow} n None ∙ size;
  sessions_sized = length-replicate {A = Option SessionRow} n None ∙ size;
  linked_sized = length-replicate {A = List ObjNo} n [] ∙ size;
  owned_sized = length-map bs (λ _. []) ∙ sym (length-map bs (λ b. b.thread));
  owners = λ t o some. let none = none_owned bs t o in absurd (omega arith);
  once = λ t o. let none = none_owned bs t o in omega arith;
  closing = λ k row o is dead some. let none = none_owned bs (record { 0 = k }) o in absurd (omega arith);
  none = λ k row is spent. nothing_at bs (λ (l : List ObjNo). l ≡ []) k refl;
  unlinked = λ o is. absurd (no_server n o is);
  unlocked = λ o is. absurd (no_server n o is);
  sessions = λ s o is. absurd (no_link n s o is);
  sessions_apart = λ s there. no_session n s;
  links_apart = λ k row p is link. no_session n p;
  sessions_over = λ s over. ap link_of (no_session n s);
  linked = λ s o among. absurd (none_among n s o among);
  sessions_made = λ s past. no_session n s;
  linked_made = λ o past. none_linked n o;
}

-- each thread has all its instructions left
row_left : (thread : Option ThreadRow) → numbers_left thread ≤ 32768 * thread_bit thread
row_left None = omega arith
row_left (Some row) = omega arith

all_left : (threads : List (Option ThreadRow)) → total numbers_left threads ≤ 32768 * total thread_bit threads
all_left [] = omega arith
all_left (thread ∷ threads) = let one = row_left thread in let rest = all_left threads in omega arith

pub messages-boot : (script : Script) (A : ObjNo → ℕ → Type 0) (n pool : ℕ) → IsShaped script → n ≡ OBJECTS
    → AreMessages A (map (λ b. b.thread) (born script)) (no_rows n) (no_messages n pool)
messages-boot script A n pool shaped size = record {
  objects = size;
  rising = tt;
  given = λ message there. absurd (none_contained message there);
  sessions = λ message there. absurd (none_contained message there);
  clients = λ message there. absurd (none_contained message there);
  sent = λ u s. omega arith;
  awaited = λ u s some. absurd (omega arith);
  called = λ u. omega arith;
  replies = λ u row some is live. absurd (omega arith);
  closed = λ s. let none : unclosed_bit (session_at (no_rows n) s) ≡ 0 = ap unclosed_bit (no_session n s) in omega arith;
  threads_few = threads_few script shaped;
  numbered =
      let none = total-replicate {A = Option SessionRow} open_bit None n refl in
      let few = threads_few script shaped in
      let left = all_left (map (λ b. b.thread) (born script)) in
      omega arith;
}
