-- What a move does to the weight of a doomed thread, in an action of another, or aside of its own thread.
use Rattle.std.proofs.Common.{◌≡◌, ◌⊎◌, inl, inr, ℕ, ◌+◌, ◌*◌, ◌<◌, ◌≤◌, List, [], ◌∷◌, length, get_or, arith, refl, sym, ap, subst, ◌∙◌, true, Option, Some, None}
use Rattle.std.specs.Prelude.{is_some}
use Rattle.std.proofs.lemmas.Bool.{cases_eq}
use Rattle.std.proofs.lemmas.List.{get_or-set_other}
use Rattle.sym_base.specs.declared.number.ObjNo.{ObjNo}
use Rattle.script_types.specs.declared.script.Script.{Script}
use Rattle.entry_log.specs.declared.effect.Holder.{Holder}
use Rattle.entry_log.specs.declared.effect.Holder.TheVariants.{Kernel}
use Rattle.state_rows.specs.Locks.{best_waiter}
use Rattle.state_rows.specs.MessageRows.{messages_at}
use Rattle.state_rows.specs.ServerRows.{linked_at}
use Rattle.state_rows.specs.declared.duty.Owed.{Owed}
use Rattle.state_rows.specs.declared.duty.Owed.TheVariants as duty
use Rattle.state_rows.specs.declared.locks.Locked.TheVariants.{Taken}
use Rattle.state_rows.specs.declared.locks.Unlocked.TheVariants.{Freed, Passed}
use Rattle.state_rows.specs.declared.thread.Stage.TheVariants.{Live, Doomed, Cleaned}
use Rattle.state_rows.specs.declared.thread.Waiting.TheVariants as waiting
use Rattle.state_rows.specs.declared.thread.ThreadRow.{ThreadRow}
use Rattle.state_rows.specs.ObjectRows.{place_of}
use Rattle.machine.specs.Choice.{priority_of}
use Rattle.machine.specs.DeathMoves.{death_row}
use Rattle.machine.specs.Fits.{FitsMove}
use Rattle.machine.specs.LogonMoves.{logons_on}
use Rattle.machine.specs.Kept.{dies}
use Rattle.machine.specs.Moves.{advanced, link_of, moved, owed_by_close, owed_use, use_of, next_object, with_found, with_kept, with_message, with_missed, with_opened, with_part, with_priority, with_register, with_use, with_waiting}
use Rattle.machine.specs.References.{kernel_holds, mutex_names, stage_holds, total}
use Rattle.machine.specs.Rows.{object_of, owed_of, owing, thread_of, with_row, without_first}
use Rattle.machine.specs.ServerMoves.{owned_by}
use Rattle.machine.specs.WellFormed.{AreRows, IsLiveThread, weight}
use Rattle.machine.specs.declared.death_move.DeathMove.{DeathMove}
use Rattle.machine.specs.declared.death_move.DeathMove.TheVariants.{Note, Doom, Clean, Bury}
use Rattle.machine.specs.declared.lock_move.LockMove.{LockMove}
use Rattle.machine.specs.declared.lock_move.LockMove.TheVariants.{Lock, Unlock, Free}
use Rattle.machine.specs.declared.logon_move.LogonMove.{LogonMove}
use Rattle.machine.specs.declared.message_move.MessageMove.{MessageMove}
use Rattle.machine.specs.declared.message_move.MessageMove.TheVariants.{Accept, Take, Finish}
use Rattle.machine.specs.declared.moves.Move.{Move}
use Rattle.machine.specs.declared.moves.Move.TheVariants.{Make, Gain, Lose, Find, Open, Miss, GoOn, Keep, Write, WriteMessage, PutDown, Advance, Wait, Wake, SetPriority, Nano, Deferred, Requests, Locks, Logons, Death, Servers, Messages, Fill, Copies, Pay}
use Rattle.machine.specs.declared.server_move.ServerMove.{ServerMove}
use Rattle.machine.specs.declared.server_move.ServerMove.TheVariants.{Start as StartServer, Join, Close, CloseAll, SetOpen, End}
use Rattle.machine.specs.declared.state.State.{State}
use Rattle.move_laws.proofs.MoveLaws.Pays.{sweep-unheld}
use Rattle.move_laws.proofs.References.Same.{eqb_apart}
use Rattle.machine.specs.LockMoves.{not_holding}
use Rattle.state_rows.specs.Locks.{owner_at}
use Rattle.move_laws.proofs.MoveLaws.LockMoves.{passed_by}
use Rattle.machine_safe.proofs.Deaths.LockMoves.{waiter-live}
use Rattle.machine_safe.proofs.Weight.Closes.{IsClosed, lighter-close}
use Rattle.machine_safe.proofs.Weight.Lighter.{Lighter, RowKept, gets-same, gets-swept, links_left-swept, lighter-parts, row-changed, row-same, row-left}
use Rattle.machine_safe.proofs.Weight.Lists.{total-less}
use Rattle.machine_safe.proofs.Weight.Moves.{gain_bit, is_aside, lighter-make, live-apart, made_bit, may-free, open-unowned, owned-same, post_bit, stage-apart, still, with-row}
use Rattle.machine_safe.proofs.Weight.Parts.{closing-linked, links-joined, logon_bit, logons-moved, messages-accepted, messages-copied, messages-finished, messages-taken}
use Rattle.machine_safe.specs.Weight.{handles_in, links_to, messages_to, mutexes_of, servers_of}

module _ (script : Script) (S : State) (u t : ObjNo) (row : ThreadRow) (rows : AreRows script S)
    (is : thread_of S t ≡ Some row) (doomed : row.stage ≡ Doomed) where
  abbrev Still : Move → Type 0
  Still m = Lighter S (moved u m S) t row 0 (4 * gain_bit row.process m) (made_bit t m)

  -- a change of the rows of its own thread alone, which is another
  others-row : (m : Move) (v : ObjNo) (f : ThreadRow → ThreadRow) → v ≡ u → (u.0 ≡ t.0 → ⊥) → v.0 ≡ t.0 → ⊥
  others-row m v f own apart at = apart (ap (λ (x : ObjNo). x.0) (sym own) ∙ at)

  -- messages of its servers: the rows change so that none has more
  with-messages : (T : State) (owes : ℕ) → T.references.threads ≡ S.references.threads
      → total weight (owed_of T t) ≤ total weight (owed_of S t) + owes
      → T.synchronization.mutexes ≡ S.synchronization.mutexes → T.serving.owned ≡ S.serving.owned
      → ((o : ObjNo) → 0 < total (mutex_names o) (servers_of S t) → messages_to T o ≤ messages_to S o)
      → ((o : ObjNo) → 0 < total (mutex_names o) (servers_of S t) → links_to T o ≤ links_to S o)
      → T.references.handles ≡ S.references.handles → T.synchronization.logons ≡ S.synchronization.logons → Lighter S T t row 0 owes 0
  with-messages T owes threads owed mutexes owned messages links handles logons =
      lighter-parts S T t row row owes 0 owes 0 (omega arith) (ap (λ (l : List (Option ThreadRow)). get_or l t.0 None) threads ∙ is) (row-same row) owed
      (let e = ap (λ (l : List (List ObjNo)). length (get_or l t.0 [])) mutexes in omega arith)
      (let e = ap (λ (l : List (List ObjNo)). length (get_or l t.0 [])) owned in omega arith)
      (let same : servers_of T t ≡ servers_of S t = ap (λ (l : List (List ObjNo)). get_or l t.0 []) owned in
      record {
        mutexes = λ x. let e = ap (λ (l : List (List ObjNo)). total (mutex_names x) (get_or l t.0 [])) mutexes in omega arith;
        servers = λ x. let e = ap (total (mutex_names x)) same in omega arith;
        messages = λ x some. let e = ap (total (mutex_names x)) same in messages x (omega arith);
        links = λ x some. let e = ap (total (mutex_names x)) same in links x (omega arith);
      })
      (let e = ap (λ (l : List (List ObjNo)). total (messages_to T) (get_or l t.0 [])) owned in
      let f = total-less (messages_to T) (messages_to S) (servers_of S t) messages in omega arith)
      (let e = ap (λ (l : List (List ObjNo)). total (links_to T) (get_or l t.0 [])) owned in
      let f = total-less (links_to T) (links_to S) (servers_of S t) links in omega arith)
      (let e = ap (λ l. handles_in (get_or l t.0 [])) handles in omega arith)
      (let e = ap (λ l. handles_in (get_or l row.process.0 [])) handles in omega arith)
      (let e = ap (λ l. length (logons_on l t)) logons in omega arith)

  lighter-message : (m : MessageMove) → FitsMove script u (Messages m) S → (own : ObjNo → ℕ)
      → ((o : ObjNo) → total (mutex_names o) (servers_of S t) ≤ own o) → post_bit own (Messages m) ≡ 0
      → (u.0 ≡ t.0 → ⊥) ⊎ (is_aside (Messages m) ≡ true) → Lighter S (moved u (Messages m) S) t row 0 0 0
  lighter-message (Accept slots r) fits own below none apart =
      with-messages (moved u (Messages (Accept slots r)) S) 0 refl (omega arith) refl refl
      (λ o some. elim (cases_eq r.server.0 o.0) as (λ _. messages_to (moved u (Messages (Accept slots r)) S) o ≤ messages_to S o) [
        | inl at ↦ let e = ap (λ (n : ℕ). total (mutex_names (record { 0 = n })) (servers_of S t)) at in let b = below r.server in absurd (omega arith)
        | inr other ↦ let e = messages-accepted S.serving.messages slots r o (eqb_apart r.server.0 o.0 other) in omega arith
      ]) (λ o some. omega arith) refl refl
  lighter-message (Take v) fits own below none apart =
      with-messages (moved u (Messages (Take v)) S) 0 refl (omega arith) refl refl
      (λ o some. let e = messages-taken S.serving.messages v o in omega arith) (λ o some. omega arith) refl refl
  lighter-message (Finish n code) fits own below none (inl apart) =
      with-messages (moved u (Messages (Finish n code)) S) 0 refl
      (let e : total weight (owed_of (moved u (Messages (Finish n code)) S) t)
      ≡ total weight (owed_of S t) = ap (total weight)
      (get_or-set_other S.references.owed u.0 t.0 _ [] (λ e. apart (sym e))) in omega arith) refl refl
      (λ o some. messages-finished S.serving.messages n o) (λ o some. omega arith) refl refl
  lighter-message (Finish n code) fits own below none (inr aside) = absurd (cc)

  lighter-server : (m : ServerMove) → FitsMove script u (Servers m) S → Lighter S (moved u (Servers m) S) t row 0 0 0
  lighter-server (Join s v slots client) fits =
      with-messages (moved u (Servers (Join s v slots client)) S) 0 refl (omega arith) refl refl (λ o some. omega arith)
      (λ o some. let e = ap length (links-joined S.serving.servers s v slots client o
      (λ at. open-unowned script S u t row rows is doomed v fits.accepts
      (subst (λ (n : ℕ). 0 < total (mutex_names (record { 0 = n })) (servers_of S t)) at some))) in
      omega arith) refl refl
  lighter-server (StartServer o v) fits = still script S u t row rows is doomed _ refl refl refl refl refl refl refl refl
  lighter-server (Close o) fits = still script S u t row rows is doomed _ refl refl refl refl refl refl refl refl
  lighter-server (CloseAll v) fits =
      still script S u t row rows is doomed _ refl refl refl refl refl
      (closing-linked (owned_by S.serving.owned v) S.serving.servers) refl refl
  lighter-server (SetOpen s to) fits = still script S u t row rows is doomed _ refl refl refl refl refl refl refl refl
  lighter-server (End o) fits = still script S u t row rows is doomed _ refl refl refl refl refl refl refl refl

  -- mutexes go to live threads alone, and an ownership is owed by whoever acts
  with-mutexes : (T : State) → T.references.threads ≡ S.references.threads → owed_of T t ≡ owed_of S t
      → mutexes_of T t ≡ mutexes_of S t → T.serving ≡ S.serving → T.references.handles ≡ S.references.handles
      → T.synchronization.logons ≡ S.synchronization.logons → Lighter S T t row 0 0 0
  with-mutexes T threads owed mutexes serving handles logons =
      lighter-parts S T t row row 0 0 0 0 (omega arith) (ap (λ (l : List (Option ThreadRow)). get_or l t.0 None) threads ∙ is) (row-same row)
      (let e = ap (total weight) owed in omega arith)
      (let e = ap length mutexes in omega arith)
      (let e = ap (λ s. length (owned_by s.owned t)) serving in omega arith)
      (gets-same S T t mutexes (ap (λ s. owned_by s.owned t) serving) (ap (λ s. s.messages) serving) (ap (λ s. s.servers.linked) serving))
      (let e = ap (λ s. total (λ (o : ObjNo). length (messages_at s.messages o)) (owned_by s.owned t)) serving in omega arith)
      (let e = ap (λ s. total (λ (o : ObjNo). length (linked_at s.servers o)) (owned_by s.owned t)) serving in omega arith)
      (let e = ap (λ l. handles_in (get_or l t.0 [])) handles in omega arith)
      (let e = ap (λ l. handles_in (get_or l row.process.0 [])) handles in omega arith)
      (let e = ap (λ l. length (logons_on l t)) logons in omega arith)

  pub waiter-apart : (o w : ObjNo) → best_waiter (priority_of S) S.synchronization.locks o ≡ Some w → t.0 ≡ w.0 → ⊥
  waiter-apart o w best at = live-apart script S u t row rows is doomed w (waiter-live script S o w rows best) (sym at)

  self-apart : (v : ObjNo) → v ≡ u → (u.0 ≡ t.0 → ⊥) → t.0 ≡ v.0 → ⊥
  self-apart v own apart at = apart (ap (λ (x : ObjNo). x.0) (sym own) ∙ sym at)

  lighter-lock : (m : LockMove) → FitsMove script u (Locks m) S → (u.0 ≡ t.0 → ⊥) → Lighter S (moved u (Locks m) S) t row 0 0 0
  lighter-lock (Lock o v Taken) fits apart =
      with-mutexes (moved u (Locks (Lock o v Taken)) S) refl refl
      (get_or-set_other S.synchronization.mutexes v.0 t.0 _ []
      (λ at. live-apart script S u t row rows is doomed v (live-thread (thread_of S v) refl fits.thread) (sym at))) refl
      refl refl
    where
      live-thread : (x : Option ThreadRow) → thread_of S v ≡ x → is_some x ≡ true → IsLiveThread S.references.threads v
      live-thread None e there = absurd (cc)
      live-thread (Some r) e there = record { row = r; is = e; live = fits.live r e }
  lighter-lock (Unlock o v Freed) fits apart =
      with-mutexes (moved u (Locks (Unlock o v Freed)) S) refl
      (get_or-set_other S.references.owed v.0 t.0 _ [] (self-apart v fits.0 apart))
      (get_or-set_other S.synchronization.mutexes v.0 t.0 _ [] (self-apart v fits.0 apart)) refl refl refl
  lighter-lock (Unlock o v (Passed w)) fits apart =
      let by = passed_by (owner_at S.synchronization.locks o) v w (best_waiter (priority_of S) S.synchronization.locks o) fits.1.answer in
      with-mutexes (moved u (Locks (Unlock o v (Passed w))) S) refl (get_or-set_other S.references.owed v.0 t.0 _ [] (self-apart v fits.0 apart))
      (get_or-set_other (not_holding S.synchronization.mutexes v o) w.0 t.0 _ [] (waiter-apart o w by.1)
      ∙ get_or-set_other S.synchronization.mutexes v.0 t.0 _ [] (self-apart v fits.0 apart)) refl refl refl
  lighter-lock (Free o v None) fits apart =
      with-mutexes (moved u (Locks (Free o v None)) S) refl
      (get_or-set_other S.references.owed v.0 t.0 _ [] (self-apart v fits.0 apart))
      (get_or-set_other S.synchronization.mutexes v.0 t.0 _ [] (self-apart v fits.0 apart)) refl refl refl
  lighter-lock (Free o v (Some w)) fits apart =
      with-mutexes (moved u (Locks (Free o v (Some w))) S) refl (get_or-set_other S.references.owed v.0 t.0 _ [] (self-apart v fits.0 apart))
      (get_or-set_other (not_holding S.synchronization.mutexes v o) w.0 t.0 _ [] (waiter-apart o w (sym fits.1.chosen))
      ∙ get_or-set_other S.synchronization.mutexes v.0 t.0 _ [] (self-apart v fits.0 apart)) refl refl refl
  lighter-lock m fits apart = still script S u t row rows is doomed _ refl refl refl refl refl refl refl refl

  lighter-death : (m : DeathMove) → FitsMove script u (Death m) S → (u.0 ≡ t.0 → ⊥) → Lighter S (moved u (Death m) S) t row 0 0 0
  lighter-death (Note v exit) fits apart =
      with-row script S u t row rows is doomed (Death (Note v exit)) v (death_row (Note v exit)) _ refl
      (inr (row-left refl)) refl refl refl refl refl
      refl refl
  lighter-death (Doom v exit) fits apart =
      with-row script S u t row rows is doomed (Death (Doom v exit)) v (death_row (Doom v exit)) _ refl
      (inl (stage-apart script S u t row rows is doomed v Live fits.0 (λ e. absurd (cc)))) refl refl refl refl refl refl
      refl
  lighter-death (Clean v) fits apart =
      with-row script S u t row rows is doomed (Death (Clean v)) v (death_row (Clean v)) _ refl
      (inl (λ at. apart (ap (λ (x : ObjNo). x.0) (sym fits.2) ∙ at))) refl refl refl refl refl refl refl
  lighter-death (Bury v) fits apart =
      let new = row-changed S.references.threads v t (death_row (Bury v)) row is
      (inl (stage-apart script S u t row rows is doomed v Cleaned fits.0 (λ e. absurd (cc)))) in
      lighter-parts S (moved u (Death (Bury v)) S) t row new.0 0 0 0 0 (omega arith) new.1 new.2
      (let e : total weight (owed_of (moved u (Death (Bury v)) S) t)
      ≡ total weight (owed_of S t) = ap (total weight)
      (get_or-set_other S.references.owed u.0 t.0 _ [] (λ at. apart (sym at))) in omega arith)
      (omega arith) (omega arith) (gets-same S (moved u (Death (Bury v)) S) t refl refl refl refl) (omega arith)
      (omega arith) (omega arith) (omega arith) (omega arith)

  lighter-logon : (m : LogonMove) → Lighter S (moved u (Logons m) S) t row 0 0 (logon_bit t m)
  lighter-logon m =
      lighter-parts S (moved u (Logons m) S) t row row 0 0 0 (logon_bit t m) (omega arith) is (row-same row)
      (omega arith) (omega arith) (omega arith) (gets-same S (moved u (Logons m) S) t refl refl refl refl) (omega arith)
      (omega arith) (omega arith) (omega arith) (logons-moved m S.synchronization.logons t)

  owed-others : (v : ObjNo) (more : List Owed) (T : State) → v ≡ u → (u.0 ≡ t.0 → ⊥)
      → T.references.owed ≡ owing S.references.owed v more → total weight (owed_of T t) ≤ total weight (owed_of S t) + 0
  owed-others v more T own apart same =
      let e = ap (λ (l : List (List Owed)). total weight (get_or l t.0 [])) same in
      let f : total weight (get_or (owing S.references.owed v more) t.0 []) ≡ total weight (owed_of S t) =
      ap (total weight) (get_or-set_other S.references.owed v.0 t.0 _ [] (self-apart v own apart)) in
      omega arith

  -- the end of an instruction, and of a use, of another
  lighter-owing : (T : State) (v : ObjNo) (f : ThreadRow → ThreadRow) (more : List Owed) → v ≡ u → (u.0 ≡ t.0 → ⊥)
      → T.references.threads ≡ with_row S.references.threads v f → T.references.owed ≡ owing S.references.owed v more
      → T.synchronization ≡ S.synchronization → T.serving ≡ S.serving → T.references.handles ≡ S.references.handles → Lighter S T t row 0 0 0
  lighter-owing T v f more own apart threads owed synchronization serving handles =
      let new = row-changed S.references.threads v t f row is (inl (λ at. self-apart v own apart (sym at))) in
      lighter-parts S T t row new.0 0 0 0 0 (omega arith) (ap (λ (l : List (Option ThreadRow)). get_or l t.0 None) threads ∙ new.1) new.2
      (owed-others v more T own apart owed)
      (let e = ap (λ s. length (get_or s.mutexes t.0 [])) synchronization in omega arith)
      (let e = ap (λ s. length (owned_by s.owned t)) serving in omega arith)
      (gets-same S T t (ap (λ s. get_or s.mutexes t.0 []) synchronization) (ap (λ s. owned_by s.owned t) serving)
      (ap (λ s. s.messages) serving) (ap (λ s. s.servers.linked) serving))
      (let e = ap (λ s. total (λ (o : ObjNo). length (messages_at s.messages o)) (owned_by s.owned t)) serving in omega arith)
      (let e = ap (λ s. total (λ (o : ObjNo). length (linked_at s.servers o)) (owned_by s.owned t)) serving in omega arith)
      (let e = ap (λ l. handles_in (get_or l t.0 [])) handles in omega arith)
      (let e = ap (λ l. handles_in (get_or l row.process.0 [])) handles in omega arith)
      (let e = ap (λ s. length (logons_on s.logons t)) synchronization in omega arith)

  -- a change of another's row
  row-of : (m : Move) (v : ObjNo) (f : ThreadRow → ThreadRow) (T : State) → v ≡ u → (u.0 ≡ t.0 → ⊥)
      → T.references.threads ≡ with_row S.references.threads v f → T.references.owed ≡ S.references.owed
      → T.references.handles ≡ S.references.handles → T.synchronization ≡ S.synchronization → T.serving ≡ S.serving
      → Lighter S T t row 0 0 0
  row-of m v f T own apart threads owed handles synchronization serving =
      with-row script S u t row rows is doomed m v f T threads (inl (λ at. self-apart v own apart (sym at))) owed
      (ap (λ s. s.mutexes) synchronization) (ap (λ s. s.owned) serving) (ap (λ s. s.messages) serving)
      (ap (λ s. s.servers.linked) serving) handles (ap (λ s. s.logons) synchronization)

  -- and one that leaves what its thread has, whoever that is
  row-any : (m : Move) (v : ObjNo) (f : ThreadRow → ThreadRow) (T : State) → RowKept row (f row)
      → T.references.threads ≡ with_row S.references.threads v f → T.references.owed ≡ S.references.owed
      → T.references.handles ≡ S.references.handles → T.synchronization ≡ S.synchronization → T.serving ≡ S.serving
      → Lighter S T t row 0 0 0
  row-any m v f T kept threads owed handles synchronization serving =
      with-row script S u t row rows is doomed m v f T threads (inr kept) owed (ap (λ s. s.mutexes) synchronization)
      (ap (λ s. s.owned) serving) (ap (λ s. s.messages) serving) (ap (λ s. s.servers.linked) serving) handles
      (ap (λ s. s.logons) synchronization)

  closed-by : (h : Holder) (o : ObjNo) → IsClosed S (moved u (Lose h o) S) h o
  closed-by h o = record { threads = refl; handles = refl; mutexes = refl; owned = refl; messages = refl; linked = refl; logons = refl }

  -- each move
  pub lighter-move : (m : Move) → FitsMove script u m S → (own : ObjNo → ℕ)
      → ((o : ObjNo) → total (mutex_names o) (servers_of S t) ≤ own o) → post_bit own m ≡ 0
      → (u.0 ≡ t.0 → ⊥) ⊎ (is_aside m ≡ true)
      → Lighter S (moved u m S) t row 0 (4 * gain_bit row.process m) (made_bit t m)
  lighter-move (Make k name h) fits own below none (inl apart) =
      lighter-make script S u t row rows is doomed (Make k name h) (moved u (Make k name h) S) h
      (next_object S) fits.1 fits.3 apart refl refl
      (owned-same script S u t row rows is doomed h (next_object S) fits.1) refl refl refl refl refl
  lighter-move (Gain h o) fits own below none (inl apart) =
      lighter-make script S u t row rows is doomed (Gain h o) (moved u (Gain h o) S) h o
      (may-free script S u t row rows is doomed h fits.0) fits.2 apart refl refl refl refl refl refl refl refl
  lighter-move (Lose h o) fits own below none (inl apart) =
      lighter-close S (moved u (Lose h o) S) t row h o 0 is (closed-by h o)
      (owed-others u (owed_by_close (dies S o) o (link_of S o)) (moved u (Lose h o) S) refl apart refl)
  lighter-move (Find v o) fits own below none (inl apart) =
      row-of (Find v o) v (with_found o (place_of (object_of S o)))
      (moved u (Find v o) S) fits.1 apart refl refl refl refl refl
  lighter-move (Open v o part) fits own below none (inl apart) =
      row-of (Open v o part) v (with_opened o part) (moved u (Open v o part) S) fits.1 apart refl refl refl refl refl
  lighter-move (Miss v o) fits own below none (inl apart) = row-of (Miss v o) v with_missed (moved u (Miss v o) S) fits.1 apart refl refl refl refl refl
  lighter-move (GoOn v part) fits own below none (inl apart) =
      row-of (GoOn v part) v (with_part part) (moved u (GoOn v part) S) fits.1 apart refl refl refl refl refl
  lighter-move (Keep v number) fits own below none (inl apart) =
      row-of (Keep v number) v (with_kept number) (moved u (Keep v number) S) fits.1 apart refl refl refl refl refl
  lighter-move (Write v x value) fits own below none (inl apart) =
      row-any (Write v x value) v (with_register x value) (moved u (Write v x value) S)
      (row-left refl) refl refl refl refl refl
  lighter-move (WriteMessage v y number) fits own below none (inl apart) =
      row-any (WriteMessage v y number) v (with_message y number) (moved u (WriteMessage v y number) S)
      (row-left refl) refl refl refl refl refl
  lighter-move (PutDown v) fits own below none (inl apart) =
      lighter-owing (moved u (PutDown v) S) v (with_use None)
      (owed_use v (use_of S v)) fits.0 apart refl refl refl refl refl
  lighter-move (Advance v) fits own below none (inl apart) =
      lighter-owing (moved u (Advance v) S) v advanced (owed_use v (use_of S v)) fits.0 apart refl refl refl refl refl
  lighter-move (Wait v what) fits own below none (inl apart) =
      row-any (Wait v what) v (with_waiting what) (moved u (Wait v what) S)
      (row-left refl) refl refl refl refl refl
  lighter-move (Wake v) fits own below none apart =
      row-any (Wake v) v (with_waiting waiting.Nothing) (moved u (Wake v) S)
      (row-left refl) refl refl refl refl refl
  lighter-move (SetPriority v priority) fits own below none (inl apart) =
      row-any (SetPriority v priority) v (with_priority priority) (moved u (SetPriority v priority) S)
      (row-left refl) refl refl refl refl refl
  lighter-move (Nano m) fits own below none apart = still script S u t row rows is doomed (moved u (Nano m) S) refl refl refl refl refl refl refl refl
  lighter-move (Deferred m) fits own below none apart = still script S u t row rows is doomed (moved u (Deferred m) S) refl refl refl refl refl refl refl refl
  lighter-move (Requests m) fits own below none apart = still script S u t row rows is doomed (moved u (Requests m) S) refl refl refl refl refl refl refl refl
  lighter-move (Locks m) fits own below none (inl apart) = lighter-lock m fits apart
  lighter-move (Logons m) fits own below none (inl apart) = lighter-logon m
  lighter-move (Death m) fits own below none (inl apart) = lighter-death m fits apart
  lighter-move (Servers m) fits own below none apart = lighter-server m fits
  lighter-move (Messages m) fits own below none apart = lighter-message m fits own below none apart
  lighter-move (Fill p at long byte) fits own below none (inl apart) =
      still script S u t row rows is doomed (moved u (Fill p at long byte) S) refl refl refl refl refl refl refl refl
  lighter-move (Copies m) fits own below none (inl apart) =
      with-messages (moved u (Copies m) S) 0 refl (omega arith) refl refl
      (λ o some. let e = messages-copied m S.references.threads S.serving.messages o in omega arith)
      (λ o some. omega arith) refl refl
  lighter-move (Pay what) fits own below none apart = absurd fits
  lighter-move _ fits own below none (inr aside) = absurd (cc)

  -- and a payment of another
  pub lighter-pay : (what : Owed) (rest : List Owed) → owed_of S u ≡ what ∷ rest → u.0 < length S.references.owed
      → (u.0 ≡ t.0 → ⊥) → Lighter S (moved u (Pay what) S) t row 0 0 0
  lighter-pay (duty.Close h o) rest owes within apart =
      lighter-close S (moved u (Pay (duty.Close h o)) S) t row Kernel o 0 is
      (record {
        threads = refl;
        handles = refl;
        mutexes = refl;
        owned = refl;
        messages = refl;
        linked = refl;
        logons = refl;
      })
      (let e : total weight (owed_of (moved u (Pay (duty.Close h o)) S) t)
      ≡ total weight (owed_of S t) = ap (total weight)
      (get_or-set_other (without_first S.references.owed u) u.0 t.0 _ [] (λ at. apart (sym at))
      ∙ get_or-set_other S.references.owed u.0 t.0 _ [] (λ at. apart (sym at))) in omega arith)
  lighter-pay (duty.Sweep o) rest owes within apart =
      lighter-parts S (moved u (Pay (duty.Sweep o)) S) t row row 0 0 0 0 (omega arith)
      (get_or-set_other S.references.threads o.0 t.0 None None other ∙ is) (row-same row)
      (let e : total weight (owed_of (moved u (Pay (duty.Sweep o)) S) t)
      ≡ total weight (owed_of S t) = ap (total weight)
      (get_or-set_other S.references.owed u.0 t.0 _ [] (λ at. apart (sym at))) in omega arith)
      (omega arith) (omega arith) (gets-swept S u o t) (omega arith)
      (links_left-swept S u o t) (omega arith) (omega arith) (omega arith)
    where
      other : t.0 ≡ o.0 → ⊥
      other at =
          let none = sweep-unheld script S u o rest owes within rows in
          let held : kernel_holds (thread_of S o)
          ≡ 1 = ap (λ (n : ℕ). kernel_holds (get_or S.references.threads n None)) (sym at)
          ∙ (ap kernel_holds is ∙ ap stage_holds doomed) in
          absurd (omega arith)
