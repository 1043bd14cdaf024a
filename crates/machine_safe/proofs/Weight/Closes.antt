-- What a reference that goes does to the weight of a doomed thread, beside what is owed then.
use Rattle.std.proofs.Common.{◌≡◌, inr, ℕ, ◌+◌, ◌≤◌, List, [], length, get_or, arith, refl, ap, ◌∙◌, Bool, true, false, Option, Some, None}
use Rattle.sym_base.specs.declared.number.ObjNo.{ObjNo}
use Rattle.entry_log.specs.declared.effect.Holder.{Holder}
use Rattle.entry_log.specs.declared.effect.Holder.TheVariants.{InProcess, InThread, Temp}
use Rattle.state_rows.specs.MessageRows.{messages_at}
use Rattle.state_rows.specs.declared.thread.ThreadRow.{ThreadRow}
use Rattle.machine.specs.Kept.{dies}
use Rattle.machine.specs.LogonMoves.{logons_on}
use Rattle.machine.specs.Moves.{tables_lose, threads_closed, threads_lose, unlinked, with_use}
use Rattle.machine.specs.References.{mutex_names, total}
use Rattle.machine.specs.Rows.{owed_of, table_of, thread_of}
use Rattle.machine.specs.ServerMoves.{owned_lose, servers_closed, servers_lose}
use Rattle.machine.specs.WellFormed.{weight}
use Rattle.machine.specs.declared.state.State.{State}
use Rattle.machine_safe.proofs.Weight.Lighter.{Lighter, RowKept, lighter-parts, row-changed, row-same, row-then, row-left}
use Rattle.machine_safe.proofs.Weight.Lists.{total-less}
use Rattle.machine_safe.proofs.Weight.Parts.{links-gone, servers-fewer, servers-less, table-freed}
use Rattle.machine_safe.specs.Weight.{GetsNoMore, handles_in, links_left, links_to, messages_left, messages_to, mutexes_of, servers_of}

-- the state after a holder's reference to an object went: all but what is owed
pub record IsClosed (S T : State) (h : Holder) (o : ObjNo) : Type 0 where
  pub threads : T.references.threads ≡ threads_closed (dies S o) o (threads_lose h S.references.threads)
  pub handles : T.references.handles ≡ tables_lose h S.references.handles
  pub mutexes : T.synchronization.mutexes ≡ S.synchronization.mutexes
  pub owned : T.serving.owned ≡ owned_lose h o S.serving.owned
  pub messages : T.serving.messages ≡ S.serving.messages
  pub linked : T.serving.servers.linked ≡ (servers_closed (dies S o) o (servers_lose h S.serving.servers)).linked
  pub logons : T.synchronization.logons ≡ S.synchronization.logons

-- what a thread has then
pub record HasLess (S T : State) (t : ObjNo) (row : ThreadRow) : Type 0 where
  pub new : ThreadRow
  pub is : thread_of T t ≡ Some new
  pub kept : RowKept row new
  pub mutexes : length (mutexes_of T t) ≤ length (mutexes_of S t)
  pub servers : length (servers_of T t) ≤ length (servers_of S t)
  pub gets : GetsNoMore S T t
  pub messages : messages_left T t ≤ messages_left S t
  pub links : links_left T t ≤ links_left S t
  pub own : handles_in (table_of T t) ≤ handles_in (table_of S t)
  pub shared : handles_in (table_of T row.process) ≤ handles_in (table_of S row.process) + 0
  pub logons : length (logons_on T.synchronization.logons t) ≤ length (logons_on S.synchronization.logons t) + 0

closed-row : (b : Bool) (o : ObjNo) (threads : List (Option ThreadRow)) (t : ObjNo) (row : ThreadRow)
    → get_or threads t.0 None ≡ Some row
    → (new : ThreadRow) × (get_or (threads_closed b o threads) t.0 None ≡ Some new) × RowKept row new
closed-row true o threads t row is =
    row-changed threads o t unlinked row is (inr (row-left refl))
closed-row false o threads t row is = (row, is, row-same row)

lost-row : (h : Holder) (threads : List (Option ThreadRow)) (t : ObjNo) (row : ThreadRow)
    → get_or threads t.0 None ≡ Some row
    → (new : ThreadRow) × (get_or (threads_lose h threads) t.0 None ≡ Some new) × RowKept row new
lost-row (Temp v) threads t row is =
    row-changed threads v t (with_use None) row is
    (inr (record { stage = refl; process = refl; find = omega arith; used = omega arith }))
lost-row _ threads t row is = (row, is, row-same row)

lost-table : (h : Holder) (tables : List (List _)) (p : ObjNo) → handles_in (get_or (tables_lose h tables) p.0 []) ≤ handles_in (get_or tables p.0 [])
lost-table (InProcess q i) tables p = table-freed tables q p i
lost-table (InThread v i) tables p = table-freed tables v p i
lost-table _ tables p = omega arith

pub has-less : (S T : State) (t : ObjNo) (row : ThreadRow) (h : Holder) (o : ObjNo) → thread_of S t ≡ Some row → IsClosed S T h o → HasLess S T t row
has-less S T t row h o is c =
    let lost = lost-row h S.references.threads t row is in
    let closed = closed-row (dies S o) o (threads_lose h S.references.threads) t lost.0 lost.1 in
    record {
      new = closed.0;
      is = ap (λ (l : List (Option ThreadRow)). get_or l t.0 None) c.threads ∙ closed.1;
      kept = row-then row lost.0 closed.0 lost.2 closed.2;
      mutexes = let e = ap (λ (l : List (List ObjNo)). length (get_or l t.0 [])) c.mutexes in omega arith;
      servers = let e = ap (λ (l : List (List ObjNo)). length (get_or l t.0 [])) c.owned in let f = servers-fewer h o S.serving.owned t in omega arith;
      gets = record {
        mutexes = λ x. let e = ap (λ (l : List (List ObjNo)). total (mutex_names x) (get_or l t.0 [])) c.mutexes in omega arith;
        servers =
            λ x. let e = ap (λ (l : List (List ObjNo)). total (mutex_names x) (get_or l t.0 [])) c.owned in
            let f = servers-less (mutex_names x) h o S.serving.owned t in omega arith;
        messages = λ x some. let e = ap (λ r. length (messages_at r x)) c.messages in omega arith;
        links =
            λ x some. let e = ap (λ (r : List (List ObjNo)). length (get_or r x.0 [])) c.linked in
            let f = links-gone (dies S o) h o S.serving.servers x in omega arith;
      };
      messages =
          let e = ap (λ (l : List (List ObjNo)). total (messages_to T) (get_or l t.0 [])) c.owned in
          let f = ap (λ r. total (λ (x : ObjNo). length (messages_at r x)) (get_or (owned_lose h o S.serving.owned) t.0 [])) c.messages in
          let g = servers-less (messages_to S) h o S.serving.owned t in omega arith;
      links =
          let e = ap (λ (l : List (List ObjNo)). total (links_to T) (get_or l t.0 [])) c.owned in
          let f = ap (λ r. total (λ (x : ObjNo). length (get_or r x.0 [])) (get_or (owned_lose h o S.serving.owned) t.0 [])) c.linked in
          let g = total-less (λ (x : ObjNo). length
          (get_or (servers_closed (dies S o) o (servers_lose h S.serving.servers)).linked x.0 [])) (links_to S)
          (get_or (owned_lose h o S.serving.owned) t.0 []) (λ x some. links-gone (dies S o) h o S.serving.servers x) in
          let k = servers-less (links_to S) h o S.serving.owned t in omega arith;
      own = let e = ap (λ l. handles_in (get_or l t.0 [])) c.handles in let f = lost-table h S.references.handles t in omega arith;
      shared = let e = ap (λ l. handles_in (get_or l row.process.0 [])) c.handles in let f = lost-table h S.references.handles row.process in omega arith;
      logons = let e = ap (λ l. length (logons_on l t)) c.logons in omega arith;
    }

-- so it weighs no more than what is owed more
pub lighter-close : (S T : State) (t : ObjNo) (row : ThreadRow) (h : Holder) (o : ObjNo) (owes : ℕ)
    → thread_of S t ≡ Some row → IsClosed S T h o → total weight (owed_of T t) ≤ total weight (owed_of S t) + owes
    → Lighter S T t row 0 owes 0
lighter-close S T t row h o owes is c owed =
    let l = has-less S T t row h o is c in
    lighter-parts S T t row l.new owes 0 owes 0 (omega arith) l.is l.kept owed l.mutexes l.servers l.gets l.messages l.links l.own l.shared l.logons
