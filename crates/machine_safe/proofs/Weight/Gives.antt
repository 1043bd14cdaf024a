-- What a doomed thread gives up makes it lighter: one lemma for each kind of thing.
use Rattle.std.proofs.Common.{◌≡◌, inr, ℕ, ◌+◌, ◌*◌, ◌<◌, ◌≤◌, List, [], ◌∷◌, length, get_or, arith, refl, sym, ap, subst, ◌∙◌, Bool, true, false, Option, Some, None}
use Rattle.std.specs.Prelude.{Contains, if◌then◌else◌, is_some, not, option_map, ℤ, ◌==◌, ◌||◌}
use Rattle.std.proofs.lemmas.Bool.{eq-eqb}
use Rattle.std.proofs.lemmas.List.{get_or-set_other}
use Rattle.sym_base.specs.declared.number.ObjNo.{ObjNo}
use Rattle.script_types.specs.declared.script.Script.{Script}
use Rattle.entry_log.specs.declared.effect.Holder.{Holder}
use Rattle.entry_log.specs.declared.effect.Holder.TheVariants.{InProcess, InThread, Temp, Own, Link}
use Rattle.state_rows.specs.MessageRows.{has_number, is_at, messages_at}
use Rattle.state_rows.specs.ServerChanges.{unlisted, without}
use Rattle.state_rows.specs.ServerRows.{holds, link_of as link_of_session, linked_at, server_of, session_at}
use Rattle.state_rows.specs.declared.servers.SessionRow.{SessionRow}
use Rattle.state_rows.specs.declared.messages.Message.{Message}
use Rattle.state_rows.specs.declared.thread.Stage.TheVariants.{Doomed}
use Rattle.state_rows.specs.declared.thread.ThreadRow.{ThreadRow}
use Rattle.machine.specs.DeathMoves.{death_row}
use Rattle.machine.specs.Fits.{EachFits, FitsMove, Sane, most_owed}
use Rattle.machine.specs.Holdings.{stage_left}
use Rattle.machine.specs.Kept.{dies, is_kept}
use Rattle.machine.specs.LockMoves.{holding, not_holding}
use Rattle.machine.specs.LogonMoves.{is_logon, logons_on, without_logon}
use Rattle.machine.specs.Moves.{link_of, link_of_row, link_or, moved, owed_by_close, perform, threads_closed, told, unlinked, use_of_row, with_use}
use Rattle.machine.specs.References.{count_of, mutex_names, option_names, same, session_names, total}
use Rattle.machine.specs.Rows.{owed_of, table_of, thread_of, with_row}
use Rattle.machine.specs.ServerMoves.{owned_by, servers_closed, servers_lose}
use Rattle.machine.specs.WellFormed.{AreRows, logon_names, weight}
use Rattle.machine.specs.declared.death_move.DeathMove.TheVariants.{Clean}
use Rattle.machine.specs.declared.deferred_move.DeferredMove.{DeferredMove}
use Rattle.machine.specs.declared.lock_move.LockMove.TheVariants.{Free}
use Rattle.machine.specs.declared.logon_move.LogonMove.TheVariants.{Remove}
use Rattle.machine.specs.declared.message_move.MessageMove.TheVariants.{Finish}
use Rattle.machine.specs.declared.moves.Move.{Move}
use Rattle.machine.specs.declared.moves.Move.TheVariants.{Lose, Locks, Logons, Death, Deferred, Messages}
use Rattle.machine.specs.declared.state.State.{State}
use Rattle.move_laws.proofs.Holders.ThreadRows.{row-here}
use Rattle.move_laws.proofs.Lists.Mapped.{mapped-value}
use Rattle.move_laws.proofs.Lists.Totals.{get-with, inside, total_any, total_within, total-filter}
use Rattle.move_laws.proofs.MoveLaws.Closes.{close_weight_unlinked}
use Rattle.move_laws.proofs.MoveLaws.Run.{sane-after, sound-move, weight-move}
use Rattle.move_laws.proofs.References.Same.{eqb_apart, same_self}
use Rattle.move_laws.proofs.RowLaws.Duties.{weight-owing}
use Rattle.machine_safe.proofs.Weight.Closes.{HasLess, IsClosed, has-less}
use Rattle.machine_safe.proofs.Weight.Lighter.{gets-same, lighter-at-most}
use Rattle.machine_safe.proofs.Weight.Lists.{filter-gone, total-less_one, without-length}
use Rattle.machine_safe.proofs.Weight.Lowers.{Lowered, are_aside, aside-quiet, lighter-each, lowered-then}
use Rattle.machine_safe.proofs.Weight.Moves.{gain_bit, made_bit, post_bit}
use Rattle.machine_safe.proofs.Weight.Others.{waiter-apart}
use Rattle.machine_safe.proofs.Weight.Parts.{links-gone, messages-finished, table-freed_one}
use Rattle.machine_safe.specs.Weight.{GetsNoMore, handles_in, links_left, links_to, messages_to, mutexes_of, servers_of, use_bit}
use Rattle.machine_laws.proofs.Fitting.Closing.{stays_with}

-- logons without one
logons-without : (u : ObjNo) (s : ℕ) (xs : List (ObjNo × ℕ)) → length (without_logon u s xs) + total (logon_names u s) xs ≡ length xs
logons-without u s [] = refl
logons-without u s (x ∷ xs) = by (is_logon u s x) (logons-without u s xs)
  where
    by : (b : Bool) → length (without_logon u s xs) + total (logon_names u s) xs ≡ length xs
        → length (if not b then x ∷ without_logon u s xs else without_logon u s xs) +
        ((if b then 1 else 0) + total (logon_names u s) xs) ≡ length (x ∷ xs)
    by true r = omega arith
    by false r = omega arith

-- a session that is among some is named there
held-named : (s : ObjNo) (xs : List ObjNo) → holds s xs ≡ true → 0 < total (mutex_names s) xs
held-named s [] e = absurd (cc)
held-named s (x ∷ xs) e = by (x.0 == s.0) refl e (λ there. held-named s xs there)
  where
    by : (b : Bool) → (x.0 == s.0) ≡ b → (b || holds s xs) ≡ true → (holds s xs ≡ true → 0 < total (mutex_names s) xs) → 0 < same x s + total (mutex_names s) xs
    by true at e rest = let one : same x s ≡ 1 = ap (λ (c : Bool). if c then 1 else 0) at in omega arith
    by false at e rest = let some = rest e in omega arith

-- a handle of a thread's table, and of its process's
abbrev pub IsOfThread : ThreadRow → Holder → Type 0
IsOfThread row (InThread v i) = Unit {0}
IsOfThread row (InProcess p i) = p ≡ row.process
IsOfThread row _ = ⊥

module _ (script : Script) (S : State) (t : ObjNo) (row : ThreadRow) (rows : AreRows script S)
    (is : thread_of S t ≡ Some row) (doomed : row.stage ≡ Doomed) where
  abbrev Lowers : List Move → Type 0
  Lowers ms = Lowered S (perform t ms S) t row

  pub sane : Sane script t S
  sane = record { rows = rows; inside = inside S.references.threads t.0 row is }

  -- what stands behind a move that makes it lighter is aside of it
  pub behind : (m : Move) (ms : List Move) → Lowered S (moved t m S) t row → thread_of (moved t m S) t ≡ Some row
      → EachFits script t (m ∷ ms) S → total weight (owed_of S t) + total most_owed (m ∷ ms) ≤ 12 → are_aside ms ≡ true
      → total (post_bit (λ o. total (mutex_names o) (servers_of (moved t m S) t))) ms ≡ 0 → Lowers (m ∷ ms)
  behind m ms h kept fits few aside none =
      let T = moved t m S in
      let one = sound-move script S t m fits.0 (omega arith) sane in
      let w = weight-move script S t m fits.0 in
      let quiet = aside-quiet t h.new.process ms aside in
      let both : Some h.new ≡ Some row = sym h.is ∙ kept in
      let own : h.new ≡ row = cc in
      let stays : h.new.stage ≡ Doomed = ap (λ (r : ThreadRow). r.stage) own ∙ doomed in
      let rest = lighter-each script T t t h.new (λ o. total (mutex_names o) (servers_of T t)) ms h.is stays fits.1
      (omega arith) (sane-after script S T t (told m S) sane one) (λ o. omega arith) none (inr aside) in
      lowered-then S T (perform t ms T) t row h
      (lighter-at-most T (perform t ms T) t h.new 0 (4 * total (gain_bit h.new.process) ms)
      (total (made_bit t) ms) 0 0 0 rest (omega arith) (let a = quiet.0 in omega arith)
      (let a = quiet.1 in omega arith))

  -- where references go
  pub lowered-less : (T : State) (l : HasLess S T t row)
      → total weight (owed_of T t) + 4 * use_bit l.new.uses + 4 * handles_in (table_of T t) + 4 * handles_in
      (table_of T row.process) + links_left T t + 2 * length (servers_of T t) + 1
      ≤ total weight (owed_of S t) + 4 * use_bit row.uses + 4 * handles_in (table_of S t) + 4 * handles_in
      (table_of S row.process) + links_left S t + 2 * length (servers_of S t)
      → Lowered S T t row
  lowered-less T l went = record {
    new = l.new;
    is = l.is;
    process = l.kept.process;
    less =
        let stage = ap stage_left l.kept.stage in
        let table : handles_in (table_of T l.new.process) ≡ handles_in (table_of T row.process) =
        ap (λ (q : ObjNo). handles_in (table_of T q)) l.kept.process in
        let find = l.kept.find in
        let mutexes = l.mutexes in
        let messages = l.messages in
        let logons = l.logons in omega arith;
    gets = l.gets;
  }

  -- a mutex, with all its levels
  pub free-lowers : (o : ObjNo) (best : Option ObjNo) → FitsMove script t (Locks (Free o t best)) S
      → 0 < total (mutex_names o) (mutexes_of S t) → Lowered S (moved t (Locks (Free o t best)) S) t row
  free-lowers o best fits some = by best fits
    where
      rest : get_or (not_holding S.synchronization.mutexes t o) t.0 [] ≡ without o (mutexes_of S t)
      rest = get-with (λ (l : List ObjNo). without o l) [] S.synchronization.mutexes t.0 refl

      gone : length (get_or (not_holding S.synchronization.mutexes t o) t.0 []) + 1 ≤ length (mutexes_of S t)
      gone = let own = ap length rest in let less = without-length o (mutexes_of S t) in omega arith

      fewer : (T : State) → mutexes_of T t ≡ without o (mutexes_of S t) → T.serving ≡ S.serving → GetsNoMore S T t
      fewer T left serving = record {
        mutexes =
            λ x. let e = ap (total (mutex_names x)) left in
            let f = total-filter (mutex_names x) (λ (other : ObjNo). not (other.0 == o.0)) (mutexes_of S t) in omega arith;
        servers = λ x. let e = ap (λ s. total (mutex_names x) (owned_by s.owned t)) serving in omega arith;
        messages = λ x some. let e = ap (λ s. length (messages_at s.messages x)) serving in omega arith;
        links = λ x some. let e = ap (λ s. length (linked_at s.servers x)) serving in omega arith;
      }

      by : (best : Option ObjNo) → FitsMove script t (Locks (Free o t best)) S → Lowered S (moved t (Locks (Free o t best)) S) t row
      by None fits = record {
        new = row;
        is = is;
        process = refl;
        less = let a = gone in let w = weight-move script S t (Locks (Free o t None)) fits in omega arith;
        gets = fewer (moved t (Locks (Free o t None)) S) rest refl;
      }
      by (Some w) fits =
          let other : get_or (holding (not_holding S.synchronization.mutexes t o) w o) t.0 []
          ≡ get_or (not_holding S.synchronization.mutexes t o) t.0 [] =
          get_or-set_other (not_holding S.synchronization.mutexes t o) w.0 t.0 _ []
          (waiter-apart script S t t row rows is doomed o w (sym fits.1.chosen)) in
          let long = ap length other in
          record {
            new = row;
            is = is;
            process = refl;
            less = let a = gone in let v = weight-move script S t (Locks (Free o t (Some w))) fits in omega arith;
            gets = fewer (moved t (Locks (Free o t (Some w))) S) (other ∙ rest) refl;
          }

  -- a message of one of its servers
  pub finish-lowers : (x : Message) (code : ℤ) (o : ObjNo) → FitsMove script t (Messages (Finish x.number code)) S
      → 0 < total (mutex_names o) (servers_of S t) → Contains (messages_at S.serving.messages o) x
      → Lowered S (moved t (Messages (Finish x.number code)) S) t row
  finish-lowers x code o fits some there =
      let T = moved t (Messages (Finish x.number code)) S in
      let gone = filter-gone (is_at o.0) (λ (message : Message). not (has_number x.number message))
      S.serving.messages.outstanding x there (ap not (eq-eqb x.number.0 x.number.0 refl)) in
      let less = total-less_one (messages_to T) (messages_to S) 1 o (servers_of S t) some gone (λ v. messages-finished S.serving.messages x.number v) in
      record {
        new = row;
        is = is;
        process = refl;
        less = let w = weight-move script S t (Messages (Finish x.number code)) fits in omega arith;
        gets = record {
          mutexes = λ v. omega arith;
          servers = λ v. omega arith;
          messages = λ v more. messages-finished S.serving.messages x.number v;
          links = λ v more. omega arith;
        };
      }

  -- what its present call uses
  pub use-lowers : (o : ObjNo) → FitsMove script t (Lose (Temp t) o) S → row.uses ≡ Some o → Lowered S (moved t (Lose (Temp t) o) S) t row
  use-lowers o fits used =
      let T = moved t (Lose (Temp t) o) S in
      let l = has-less S T t row (Temp t) o is
      (record {
        threads = refl;
        handles = refl;
        mutexes = refl;
        owned = refl;
        messages = refl;
        linked = refl;
        logons = refl;
      }) in
      let none : l.new.uses ≡ None = ap use_of_row (sym l.is) ∙ unused (dies S o) in
      let new = ap use_bit none in
      let old = ap use_bit used in
      let w = weight-move script S t (Lose (Temp t) o) fits in
      let a = l.own in let b = l.shared in let c = l.links in let d = l.servers in lowered-less T l (omega arith)
    where
      gone : (x : Option ThreadRow) → use_of_row (option_map (with_use None) x) ≡ None
      gone None = refl
      gone (Some r) = refl

      here : use_of_row (get_or (with_row S.references.threads t (with_use None)) t.0 None) ≡ None
      here = ap use_of_row (row-here S.references.threads t (with_use None) t.0 refl) ∙ gone (thread_of S t)

      unused : (b : Bool) → use_of_row (get_or (threads_closed b o (with_row S.references.threads t (with_use None))) t.0 None) ≡ None
      unused true = mapped-value use_of_row unlinked (with_row S.references.threads t (with_use None)) o.0 t.0 (λ r. refl) ∙ here
      unused false = here

  closed : (h : Holder) (o : ObjNo) → IsClosed S (moved t (Lose h o) S) h o
  closed h o = record { threads = refl; handles = refl; mutexes = refl; owned = refl; messages = refl; linked = refl; logons = refl }

  pub handle-lowers : (h : Holder) (o : ObjNo) → FitsMove script t (Lose h o) S → IsOfThread row h → Lowered S (moved t (Lose h o) S) t row
  handle-lowers (InThread v i) o fits own =
      let l = has-less S (moved t (Lose (InThread v i) o) S) t row (InThread v i) o is (closed (InThread v i) o) in
      let gone = table-freed_one S.references.handles v i o fits.1.1 in
      let new : handles_in (table_of (moved t (Lose (InThread v i) o) S) t) + 1 ≤ handles_in (table_of S t) =
      subst (λ (x : ObjNo). handles_in (table_of (moved t (Lose (InThread v i) o) S) x) + 1 ≤ handles_in (table_of S x))
      fits.2 gone in
      let w = weight-move script S t (Lose (InThread v i) o) fits in
      let a = l.kept.used in let b = l.shared in let c = l.links in let d = l.servers in lowered-less (moved t (Lose (InThread v i) o) S) l (omega arith)
  handle-lowers (InProcess p i) o fits own =
      let l = has-less S (moved t (Lose (InProcess p i) o) S) t row (InProcess p i) o is (closed (InProcess p i) o) in
      let gone = table-freed_one S.references.handles p i o fits.1.1 in
      let new : handles_in (table_of (moved t (Lose (InProcess p i) o) S) row.process) + 1
      ≤ handles_in (table_of S row.process) =
      subst (λ (x : ObjNo). handles_in (table_of (moved t (Lose (InProcess p i) o) S) x) + 1
      ≤ handles_in (table_of S x)) own gone in
      let w = weight-move script S t (Lose (InProcess p i) o) fits in
      let a = l.kept.used in let b = l.own in let c = l.links in let d = l.servers in lowered-less (moved t (Lose (InProcess p i) o) S) l (omega arith)
  handle-lowers _ o fits own = absurd own

  -- a session that is linked to one of its servers: the server is referred to by its ownership beside
  owned-lives : (s o : ObjNo) → server_of S.serving.servers s ≡ Some o → 0 < total (mutex_names o) (servers_of S t) → dies S o ≡ false
  owned-lives s o linked some =
      let owned = total_within (mutex_names o) S.serving.owned t.0 in
      let session = total_any (session_names o) S.serving.servers.sessions s.0 None refl in
      let one : session_names o (get_or S.serving.servers.sessions s.0 None) ≡ 1 = by (get_or S.serving.servers.sessions s.0 None) linked in
      stays_with (count_of S o == 1) (is_kept S o) (eqb_apart (count_of S o) 1 (λ e. absurd (omega arith)))
    where
      by : (x : Option SessionRow) → link_of_session x ≡ Some o → session_names o x ≡ 1
      by None e = absurd (cc)
      by (Some r) e = ap (option_names o) e ∙ same_self o

  pub link-lowers : (s o : ObjNo) → FitsMove script t (Lose (Link s) o) S → 0 < total (mutex_names o) (servers_of S t)
      → holds s (linked_at S.serving.servers o) ≡ true → Lowered S (moved t (Lose (Link s) o) S) t row
  link-lowers s o fits some among =
      let T = moved t (Lose (Link s) o) S in
      let l = has-less S T t row (Link s) o is (closed (Link s) o) in
      let lives = owned-lives s o fits.1 some in
      let owed : total weight (owed_of T t) ≤ total weight (owed_of S t) + 0 =
      (let a = weight-owing S.references.owed t (owed_by_close (dies S o) o (link_of S o)) in
      let b = ap (λ (c : Bool). total weight (owed_by_close c o (link_of S o))) lives in omega arith) in
      let fewer : length (linked_at (servers_closed false o (servers_lose (Link s) S.serving.servers)) o) + 1
      ≤ length (linked_at S.serving.servers o) =
      unlinked-one in
      let at : links_to T o + 1 ≤ links_to S o = subst
      (λ (c : Bool). length (linked_at (servers_closed c o (servers_lose (Link s) S.serving.servers)) o) + 1
      ≤ length (linked_at S.serving.servers o)) (sym lives) fewer in
      let less = total-less_one (links_to T) (links_to S) 1 o (servers_of S t) some at (λ x. links-gone (dies S o) (Link s) o S.serving.servers x) in
      let a = l.kept.used in let b = l.own in let c = l.shared in let d = l.servers in lowered-less T l (omega arith)
    where
      unlinked-one : length (get_or (unlisted (server_of S.serving.servers s) s S.serving.servers.linked) o.0 []) + 1 ≤ length (linked_at S.serving.servers o)
      unlinked-one =
          let same_list = ap (λ (x : Option ObjNo). length (get_or (unlisted x s S.serving.servers.linked) o.0 [])) fits.1 in
          let own = ap length (get-with (λ (l : List ObjNo). without s l) [] S.serving.servers.linked o.0 refl) in
          let gone = without-length s (linked_at S.serving.servers o) in
          let named = held-named s (linked_at S.serving.servers o) among in omega arith

  -- a server, of which nothing is left
  pub server-lowers : (o : ObjNo) → FitsMove script t (Lose (Own t) o) S → 0 < total (mutex_names o) (servers_of S t)
      → Lowered S (moved t (Lose (Own t) o) S) t row
  server-lowers o fits some =
      let T = moved t (Lose (Own t) o) S in
      let l = has-less S T t row (Own t) o is (closed (Own t) o) in
      let made = rows.serving.servers.owners t o some in
      let alone = rows.serving.servers.unlinked o (ap is_some made.is) in
      let none : link_of S o ≡ None = unlinked-server alone.0 alone.1 in
      let owed : total weight (owed_of T t) ≤ total weight (owed_of S t) + 1 =
      (let a = weight-owing S.references.owed t (owed_by_close (dies S o) o (link_of S o)) in
      let b = close_weight_unlinked (dies S o) o (link_of S o) none in omega arith) in
      let own = ap length (get-with (λ (x : List ObjNo). without o x) [] S.serving.owned t.0 refl) in
      let gone = without-length o (servers_of S t) in
      let a = l.kept.used in let b = l.own in let c = l.shared in let d = l.links in lowered-less T l (omega arith)
    where
      unlinked-server : thread_of S o ≡ None → session_at S.serving.servers o ≡ None → link_of S o ≡ None
      unlinked-server thread session = ap (λ (x : Option ThreadRow). link_or (link_of_row x)
          (server_of S.serving.servers o)) thread
          ∙ ap link_of_session session

  -- a logon on it
  pub logon-lowers : (u : ObjNo) (s : ℕ) → 0 < total (logon_names u s) (logons_on S.synchronization.logons t)
      → Lowered S (moved t (Logons (Remove t u s)) S) t row
  logon-lowers u s some =
      let own = ap length (get-with (λ (x : List (ObjNo × ℕ)). without_logon u s x) [] S.synchronization.logons t.0 refl) in
      let gone = logons-without u s (logons_on S.synchronization.logons t) in
      record { new = row; is = is; process = refl; less = omega arith; gets = gets-same S (moved t (Logons (Remove t u s)) S) t refl refl refl refl }

  -- and when nothing is left it is cleaned
  pub clean-lowers : (m : DeferredMove) → Lowered S (perform t (Death (Clean t) ∷ Deferred m ∷ []) S) t row
  clean-lowers m =
      let one = ap stage_left doomed in
      record {
        new = death_row (Clean t) row;
        is = row-here S.references.threads t (death_row (Clean t)) t.0 refl ∙ ap (option_map (death_row (Clean t))) is;
        process = refl;
        less = omega arith;
        gets = gets-same S (perform t (Death (Clean t) ∷ Deferred m ∷ []) S) t refl refl refl refl;
      }
