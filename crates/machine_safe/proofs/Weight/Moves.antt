-- What each move does to the weight of a doomed thread in another's action, and what those moves do that don't touch their own thread.
use Rattle.std.proofs.Common.{◌≡◌, ◌⊎◌, inl, ℕ, ◌+◌, ◌*◌, ◌<◌, ◌≤◌, List, [], length, get_or, arith, refl, sym, ap, ◌∙◌, Bool, true, false, Option, Some, None}
use Rattle.std.specs.Prelude.{◌==◌, is_some}
use Rattle.std.proofs.lemmas.List.{get_or-set_other}
use Rattle.sym_base.specs.declared.number.ObjNo.{ObjNo}
use Rattle.script_types.specs.declared.script.Script.{Script}
use Rattle.entry_log.specs.declared.effect.Holder.{Holder}
use Rattle.entry_log.specs.declared.effect.Holder.TheVariants.{InProcess, InThread, Temp, Own}
use Rattle.state_rows.specs.MessageRows.{messages_at}
use Rattle.state_rows.specs.ServerRows.{is_closing}
use Rattle.state_rows.specs.declared.thread.Stage.{Stage}
use Rattle.state_rows.specs.declared.thread.Stage.TheVariants.{Doomed}
use Rattle.state_rows.specs.declared.thread.ThreadRow.{ThreadRow}
use Rattle.machine.specs.Fits.{IsAtStage, IsFree, IsOwn as IsOwnHolder, MayMakeWith}
use Rattle.machine.specs.LogonMoves.{logons_on}
use Rattle.machine.specs.Moves.{moved, tables_gain, threads_gain, with_use}
use Rattle.machine.specs.References.{mutex_names, total}
use Rattle.machine.specs.Rows.{table_of, thread_of, with_row}
use Rattle.machine.specs.ServerMoves.{owned_by, owned_gain}
use Rattle.machine.specs.ThreadCalls.{is_live}
use Rattle.machine.specs.WellFormed.{AreRows, IsLiveThread, weight}
use Rattle.machine.specs.declared.message_move.MessageMove.TheVariants.{Accept}
use Rattle.machine.specs.declared.moves.Move.{Move}
use Rattle.machine.specs.declared.moves.Move.TheVariants.{Make, Gain, Wake, Nano, Deferred, Requests, Logons, Servers, Messages}
use Rattle.machine.specs.declared.server_move.ServerMove.TheVariants.{Close, SetOpen, End}
use Rattle.machine.specs.declared.state.State.{State}
use Rattle.move_laws.proofs.References.Same.{eqb_apart, if_not}
use Rattle.machine_safe.proofs.Weight.Lighter.{Lighter, RowKept, gets-same, lighter-parts, lighter-still, row-changed, row-same}
use Rattle.machine_safe.proofs.Weight.Parts.{logon_bit, table-taken}
use Rattle.machine_safe.specs.SafeWeights.{in_table}
use Rattle.machine_safe.specs.Weight.{handles_in, links_to, messages_to, servers_of}
use Rattle.move_laws.proofs.MoveLaws.DeathMoves.{not-doomed}

-- 1 for a move by which a handle comes into the table of this process
abbrev pub gain_bit : ObjNo → Move → ℕ
gain_bit p (Make kind name h) = in_table p h
gain_bit p (Gain h o) = in_table p h
gain_bit p _ = 0

abbrev pub made_bit : ObjNo → Move → ℕ
made_bit t (Logons m) = logon_bit t m
made_bit t _ = 0

-- how often a message that is accepted goes to one of these servers
abbrev pub post_bit : (ObjNo → ℕ) → Move → ℕ
post_bit own (Messages (Accept slots row)) = own row.server
post_bit own _ = 0

-- whether a move touches nothing that its own thread has
abbrev pub is_aside : Move → Bool
is_aside (Wake u) = true
is_aside (Requests m) = true
is_aside (Deferred m) = true
is_aside (Nano m) = true
is_aside (Servers (SetOpen s to)) = true
is_aside (Servers (Close o)) = true
is_aside (Servers (End o)) = true
is_aside (Messages (Accept slots row)) = true
is_aside _ = false

module _ (script : Script) (S : State) (u t : ObjNo) (row : ThreadRow) (rows : AreRows script S)
    (is : thread_of S t ≡ Some row) (doomed : row.stage ≡ Doomed) where
  pub live-apart : (v : ObjNo) → IsLiveThread S.references.threads v → v.0 ≡ t.0 → ⊥
  live-apart v live at =
      let here : thread_of S v ≡ Some row = ap (λ (n : ℕ). get_or S.references.threads n None) at ∙ is in
      let both : Some live.row ≡ Some row = sym live.is ∙ here in
      let own : live.row ≡ row = cc in
      not-doomed row.stage (ap (λ (r : ThreadRow). r.stage) (sym own) ∙ live.live) doomed

  pub stage-apart : (v : ObjNo) (stage : Stage) → IsAtStage S v stage → (stage ≡ Doomed → ⊥) → v.0 ≡ t.0 → ⊥
  stage-apart v stage at other e =
      let here : thread_of S v ≡ Some row = ap (λ (n : ℕ). get_or S.references.threads n None) e ∙ is in
      let both : Some at.row ≡ Some row = sym at.is ∙ here in
      let own : at.row ≡ row = cc in
      other (sym at.at ∙ (ap (λ (r : ThreadRow). r.stage) own ∙ doomed))

  there : is_some (thread_of S t) ≡ true
  there = ap is_some is

  none-apart : (p : ObjNo) → thread_of S p ≡ None → p.0 ≡ t.0 → ⊥
  none-apart p none at = let both : Some row ≡ None = sym is ∙ (ap (λ (n : ℕ). get_or S.references.threads n None) (sym at) ∙ none) in absurd (cc)

  process-apart : (v : ObjNo) → is_some (thread_of S v) ≡ true → row.process.0 ≡ v.0 → ⊥
  process-apart v some at =
      let none = rows.references.threads.processes t.0 row is in
      let gone : is_some (thread_of S v) ≡ false = ap is_some (ap (λ (n : ℕ). get_or S.references.threads n None) (sym at) ∙ none) in absurd (cc)

  -- a doomed thread's servers are closing
  pub open-unowned : (o : ObjNo) → is_closing S.serving.servers o ≡ false → 0 < total (mutex_names o) (servers_of S t) → ⊥
  open-unowned o accepting some =
      let closing = rows.serving.servers.closing t.0 row o is (ap is_live doomed) some in absurd (cc)

  Still : Move → Type 0
  Still m = Lighter S (moved u m S) t row 0 (4 * gain_bit row.process m) (made_bit t m)

  -- a move that changes a row of another thread, or leaves what this has
  pub with-row : (m : Move) (v : ObjNo) (f : ThreadRow → ThreadRow) (T : State)
      → T.references.threads ≡ with_row S.references.threads v f → (v.0 ≡ t.0 → ⊥) ⊎ RowKept row (f row)
      → T.references.owed ≡ S.references.owed → T.synchronization.mutexes ≡ S.synchronization.mutexes → T.serving.owned
      ≡ S.serving.owned → T.serving.messages ≡ S.serving.messages
      → T.serving.servers.linked ≡ S.serving.servers.linked → T.references.handles ≡ S.references.handles
      → T.synchronization.logons ≡ S.synchronization.logons → Lighter S T t row 0 0 0
  with-row m v f T threads kept owed mutexes owned messages linked handles logons =
      let new = row-changed S.references.threads v t f row is kept in
      lighter-still S T t row new.0 (ap (λ (l : List (Option ThreadRow)). get_or l t.0 None) threads ∙ new.1) new.2 owed
      mutexes owned messages linked handles logons

  pub still : (T : State) → T.references.threads ≡ S.references.threads → T.references.owed ≡ S.references.owed
      → T.synchronization.mutexes ≡ S.synchronization.mutexes → T.serving.owned ≡ S.serving.owned
      → T.serving.messages ≡ S.serving.messages
      → T.serving.servers.linked ≡ S.serving.servers.linked → T.references.handles ≡ S.references.handles
      → T.synchronization.logons ≡ S.synchronization.logons → Lighter S T t row 0 0 0
  still T threads owed mutexes owned messages linked handles logons =
      lighter-still S T t row row (ap (λ (l : List (Option ThreadRow)). get_or l t.0 None) threads ∙ is)
      (row-same row) owed mutexes owned messages linked handles logons

  -- a reference that comes
  own-table : (h : Holder) (o : ObjNo) → MayMakeWith S h → IsOwnHolder u h → (u.0 ≡ t.0 → ⊥)
      → handles_in (get_or (tables_gain h o S.references.handles) t.0 []) ≤ handles_in (table_of S t)
  own-table (InProcess q i) o free own apart =
      let a = table-taken S.references.handles q t i o in
      let b = if_not (q.0 == t.0) 1 (eqb_apart q.0 t.0 (none-apart q free.0)) in omega arith
  own-table (InThread v i) o free own apart =
      let a = table-taken S.references.handles v t i o in
      let b = if_not (v.0 == t.0) 1 (eqb_apart v.0 t.0 (λ e. apart (ap (λ (x : ObjNo). x.0) (sym own) ∙ e))) in omega arith
  own-table _ o free own apart = omega arith

  shared-table : (h : Holder) (o : ObjNo) → MayMakeWith S h
      → handles_in (get_or (tables_gain h o S.references.handles) row.process.0 [])
      ≤ handles_in (table_of S row.process) + in_table row.process h
  shared-table (InProcess q i) o free = table-taken S.references.handles q row.process i o
  shared-table (InThread v i) o free =
      let a = table-taken S.references.handles v row.process i o in
      let b = if_not (v.0 == row.process.0) 1 (eqb_apart v.0 row.process.0 (λ e. process-apart v free.0 (sym e))) in omega arith
  shared-table _ o free = omega arith

  gained-row : (h : Holder) (o : ObjNo) → IsOwnHolder u h → (u.0 ≡ t.0 → ⊥)
      → (new : ThreadRow) × (get_or (threads_gain h o S.references.threads) t.0 None ≡ Some new) × RowKept row new
  gained-row (Temp v) o own apart = row-changed S.references.threads v t (with_use (Some o)) row is (inl (λ e. apart (ap (λ (x : ObjNo). x.0) (sym own) ∙ e)))
  gained-row _ o own apart = (row, is, row-same row)

  pub owned-same : (h : Holder) (o : ObjNo) → MayMakeWith S h → owned_by (owned_gain h o S.serving.owned) t ≡ servers_of S t
  owned-same (Own v) o may = get_or-set_other S.serving.owned v.0 t.0 _ [] (λ e. live-apart v may.owner (sym e))
  owned-same _ o may = refl

  pub may-free : (h : Holder) → IsFree S h → MayMakeWith S h
  may-free (InProcess p i) free = free
  may-free (InThread v i) free = free
  may-free (Temp v) free = free
  may-free _ free = absurd free

  pub lighter-make : (m : Move) (T : State) (h : Holder) (o : ObjNo) → MayMakeWith S h → IsOwnHolder u h
      → (u.0 ≡ t.0 → ⊥) → T.references.threads ≡ threads_gain h o S.references.threads
      → T.references.handles ≡ tables_gain h o S.references.handles
      → owned_by T.serving.owned t ≡ servers_of S t → T.references.owed ≡ S.references.owed → T.synchronization.mutexes
      ≡ S.synchronization.mutexes → T.serving.messages ≡ S.serving.messages
      → T.serving.servers.linked ≡ S.serving.servers.linked → T.synchronization.logons ≡ S.synchronization.logons
      → Lighter S T t row 0 (4 * in_table row.process h) 0
  lighter-make m T h o may own apart threads handles owned owed mutexes messages linked logons =
      let new = gained-row h o own apart in
      lighter-parts S T t row new.0 0 (in_table row.process h) (4 * in_table row.process h) 0 (omega arith) (ap (λ l. get_or l t.0 None) threads ∙ new.1) new.2
      (let e = ap (λ l. total weight (get_or l t.0 [])) owed in omega arith)
      (let e = ap (λ l. length (get_or l t.0 [])) mutexes in omega arith)
      (let e = ap length owned in omega arith)
      (gets-same S T t (ap (λ l. get_or l t.0 []) mutexes) owned messages linked)
      (let e = ap (total (messages_to T)) owned in let f = ap (λ r. total (λ (x : ObjNo). length (messages_at r x)) (servers_of S t)) messages in omega arith)
      (let e = ap (total (links_to T)) owned in let f = ap (λ r. total (λ (x : ObjNo). length (get_or r x.0 [])) (servers_of S t)) linked in omega arith)
      (let e = ap (λ l. handles_in (get_or l t.0 [])) handles in let f = own-table h o may own apart in omega arith)
      (let e = ap (λ l. handles_in (get_or l row.process.0 [])) handles in let f = shared-table h o may in omega arith)
      (let e = ap (λ l. length (logons_on l t)) logons in omega arith)
