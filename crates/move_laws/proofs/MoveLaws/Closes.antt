-- A reference is given up. With the last one its object dies, and the close of the object's own link is owed, and its sweep.
use Rattle.std.proofs.Common.{◌≡◌, ◌⊎◌, inl, inr, ℕ, ◌+◌, ◌<◌, ◌≤◌, List, [], ◌∷◌, ◌++◌, length, get_or, arith, refl, sym, subst, ap, ◌∙◌, Option, Some, None, Bool, true, false}
use Rattle.std.specs.Prelude.{option_map, if◌then◌else◌, is_some, slice_set}
use Rattle.std.proofs.lemmas.List.{get_or-set_other, length-set}
use Rattle.sym_base.specs.declared.number.ObjNo.{ObjNo}
use Rattle.script_types.specs.declared.script.Script.{Script}
use Rattle.entry_log.specs.declared.effect.Holder.{Holder}
use Rattle.entry_log.specs.declared.effect.Holder.TheVariants.{Temp, Own, Link}
use Rattle.state_rows.specs.ObjectRows.{dead_row}
use Rattle.state_rows.specs.declared.duty.Owed.{Owed}
use Rattle.state_rows.specs.declared.duty.Owed.TheVariants.{Sweep}
use Rattle.state_rows.specs.declared.handle_slot.HandleSlot.{HandleSlot}
use Rattle.state_rows.specs.ServerChanges.{after_detach, detached}
use Rattle.state_rows.specs.ServerRows.{link_of as link_of_session, server_of, session_at}
use Rattle.state_rows.specs.declared.locks.LockRows.{LockRows}
use Rattle.state_rows.specs.declared.object.ObjectRow.{ObjectRow}
use Rattle.state_rows.specs.declared.servers.ServerRows.{ServerRows}
use Rattle.state_rows.specs.declared.servers.SessionRow.{SessionRow}
use Rattle.state_rows.specs.declared.thread.ThreadRow.{ThreadRow}
use Rattle.machine.specs.declared.state.State.{State}
use Rattle.machine.specs.Rows.{object_of, with_row, owing}
use Rattle.machine.specs.Moves.{link_of, link_of_row, link_or, objects_closed, threads_closed, owed_link, owed_by_close, closed_effects}
use Rattle.machine.specs.References.{total, same, thread_names, owed_names, option_names, count_of}
use Rattle.machine.specs.Kept.{dies}
use Rattle.machine.specs.Holding.{is_holder, same_pair, link_names}
use Rattle.machine.specs.HeldIn.{held_in, use_names, owed_by}
use Rattle.machine.specs.Out.{is_returning, part_of}
use Rattle.machine.specs.WellFormed.{IsAlive, AreTables, AreThreads, AreDuties, AreServiceRows, AreServingRows, EachMayOwe, AreRows, IsUntold, weight, owed_sweeps, sweeps_of, AreSpent, is_spent}
use Rattle.machine.specs.ServerMoves.{servers_closed}
use Rattle.machine.specs.Serving.{AreServers, IsUnlinked, is_over, open_bit, unclosed_bit}
use Rattle.move_laws.proofs.Lives.Closes.{lives-closed}
use Rattle.move_laws.proofs.Lives.Outs.{SeeksSame, seeks-with_row}
use Rattle.move_laws.proofs.Holders.HoldersMove.{holders-closed}
use Rattle.move_laws.proofs.Holders.ThreadRows.{rows-with_row}
use Rattle.move_laws.proofs.References.Counts.{count-with_row, kernel-with_row, total-owing}
use Rattle.move_laws.proofs.References.Same.{if_zero, same_self}
use Rattle.move_laws.proofs.RowLaws.Threads.{length-with_row, threads-with_row, none-with_row}
use Rattle.move_laws.proofs.RowLaws.Duties.{paid-with_row, duties-threads, duties-owing}
use Rattle.move_laws.proofs.RowLaws.Locks.{leaves-owing}
use Rattle.move_laws.proofs.MoveLaws.Groups.{LeavesSynchronization, services-row, synchronization-left, synchronization-row, synchronization-then}
use Rattle.move_laws.proofs.MoveLaws.Sound.{Sound, sound-of}
use Rattle.move_laws.proofs.RowLaws.Spent.{died-those, spent-died}
use Rattle.move_laws.proofs.Holders.Serving.{holds-detached}
use Rattle.move_laws.proofs.Lists.Mapped.{mapped-none, mapped-some, mapped-value}
use Rattle.move_laws.proofs.Lists.Totals.{total-with}
use Rattle.move_laws.proofs.References.Serving.{count-detached}
use Rattle.move_laws.proofs.RowLaws.MessagesKept.{messages-kept, messages-sessions}
use Rattle.move_laws.proofs.RowLaws.ServerDuties.{duties-servers}
use Rattle.move_laws.proofs.RowLaws.Servers.{servers-detached}
use Rattle.move_laws.proofs.RowLaws.ServersKept.{servers-kept}

-- the rows in the middle of a close of an object: a holder's reference to it isn't there any more
pub record HasLost (script : Script) (S : State) (t : ObjNo) (h : Holder) (o : ObjNo) (handles : List (List HandleSlot))
    (threads : List (Option ThreadRow)) (owed : List (List Owed)) (servers : ServerRows)
    (owned : List (List ObjNo)) : Type 0 where
  pub counts : (p : ObjNo)
      → count_of (record S {
        references = record S.references { handles = handles; threads = threads; owed = owed };
        serving = record S.serving { servers = servers; owned = owned };
      }) p + same o p ≡ count_of S p
  pub held : (g : Holder) (x : ObjNo)
      → held_in (record S {
        references = record S.references { handles = handles; threads = threads; owed = owed };
        serving = record S.serving { servers = servers; owned = owned };
      }) g x + same_pair h o g x ≡ held_in S g x
  pub sweeps : (p : ObjNo) → total (total (owed_sweeps p)) owed ≡ sweeps_of S p
  pub link : link_or (link_of_row (get_or threads o.0 None)) (server_of servers o) ≡ link_of S o
  pub handles_long : length handles ≡ length S.references.handles
  pub seeks : SeeksSame S.references.threads threads
  pub threads_long : length threads ≡ length S.references.threads
  pub owed_long : length owed ≡ length S.references.owed
  pub tables : AreTables handles
  pub threads_are : AreThreads script threads
  pub duties : AreDuties threads servers S.serving.messages.accepted owed
  pub synchronization : LeavesSynchronization script S threads owed
  pub services : AreServiceRows threads S.services
  pub spent : AreSpent S.references.objects handles threads
  pub serving : AreServingRows S.references.objects threads S.synchronization.locks
      (IsUntold S.synchronization.requests S.synchronization.logons)
      (record S.serving { servers = servers; owned = owned })
  pub going : is_returning (part_of (get_or threads t.0 None)) ≡ false
  pub few : total weight (get_or owed t.0 []) + total weight (owed_by_close (dies S o) o (link_of S o)) ≤ 12

-- a row without its link
abbrev unlinked : ThreadRow → ThreadRow
unlinked row = record row { link = None }

without_link : (x : Option ThreadRow) (p : ObjNo)
    → (thread_names p (option_map unlinked x) + option_names p (link_of_row x) ≡ thread_names p x)
    × (use_names p (option_map unlinked x) ≡ use_names p x) × (link_names p (option_map unlinked x) ≡ 0)
    × (link_names p x ≡ option_names p (link_of_row x))
without_link None p = (refl, refl, refl, refl)
without_link (Some row) p = (omega arith, refl, refl, refl)

-- what is owed of it
link_owed : (o : ObjNo) (link : Option ObjNo) (p : ObjNo)
    → (total (owed_names p) (owed_link o link ++ Sweep o ∷ []) ≡ option_names p link)
    × (total (owed_sweeps p) (owed_link o link ++ Sweep o ∷ []) ≡ same o p)
link_owed o None p = (refl, omega arith)
link_owed o (Some x) p = (omega arith, omega arith)

link_owed_by : (o : ObjNo) (link : Option ObjNo) (g : Holder) (x : ObjNo)
    → total (owed_by g x) (owed_link o link ++ Sweep o ∷ []) ≡ (if is_holder (Link o) g then option_names x link else 0)
link_owed_by o None g x = sym (if_zero (is_holder (Link o) g) 0 refl)
link_owed_by o (Some p) g x = omega arith

if_both : (b : Bool) (x y z : ℕ) → x + y ≡ z → (if b then x else 0) + (if b then y else 0) ≡ (if b then z else 0)
if_both true x y z e = e
if_both false x y z e = omega arith

-- that is no close of an ownership
link_unowned : (o : ObjNo) (link : Option ObjNo) (t x : ObjNo) → total (owed_by (Own t) x) (owed_link o link ++ Sweep o ∷ []) ≡ 0
link_unowned o None t x = refl
link_unowned o (Some p) t x = refl

linked_row : (x : Option ThreadRow) (p : ObjNo) → link_of_row x ≡ Some p → (row : ThreadRow) × (x ≡ Some row) × (row.link ≡ Some p)
linked_row None p e = absurd (cc)
linked_row (Some row) p e = (row, refl, e)

linked_session : (x : Option SessionRow) (p : ObjNo) → link_of_session x ≡ Some p → is_some x ≡ true
linked_session None p e = absurd (cc)
linked_session (Some row) p e = refl

-- what an object refers to is what its thread's link names, or its session's: it hasn't both
names_link : (a b : Option ObjNo) (p : ObjNo) → (a ≡ None) ⊎ (b ≡ None) → option_names p (link_or a b) ≡ option_names p a + option_names p b
names_link None b p one = omega arith
names_link (Some x) None p one = omega arith
names_link (Some x) (Some y) p one =
    elim one as (λ _. option_names p (link_or (Some x) (Some y)) ≡ option_names p (Some x) + option_names p (Some y))
    [ inl e ↦ absurd (cc) | inr e ↦ absurd (cc) ]

one_link : (objects : List (Option ObjectRow)) (threads : List (Option ThreadRow)) (locks : LockRows) (owned : List (List ObjNo))
    (servers : ServerRows) (o : ObjNo)
    → AreServers (λ row. is_spent row.stage) objects threads locks owned servers
    → (link_of_row (get_or threads o.0 None) ≡ None) ⊎ (server_of servers o ≡ None)
one_link objects threads locks owned servers o h = by (get_or threads o.0 None) refl
  where
    by : (x : Option ThreadRow) → get_or threads o.0 None ≡ x → (link_of_row (get_or threads o.0 None) ≡ None) ⊎ (server_of servers o ≡ None)
    by None is = inl (ap link_of_row is)
    by (Some row) is = inr (ap link_of_session (h.sessions_apart o (ap is_some is)))

-- what is linked to has no link itself
record MayLink (threads other : List (Option ThreadRow)) (servers new : ServerRows) : Type 0 where
  pub threads_none : (k : ℕ) → get_or threads k None ≡ None → get_or other k None ≡ None
  pub sessions_none : (x : ObjNo) → session_at servers x ≡ None → session_at new x ≡ None

may_owe_link : (script : Script) (objects : List (Option ObjectRow)) (threads other : List (Option ThreadRow)) (locks : LockRows)
    (owned : List (List ObjNo)) (servers new : ServerRows) (accepted : ℕ) (t o : ObjNo) (a b link : Option ObjNo)
    → link_of_row (get_or threads o.0 None) ≡ a → server_of servers o ≡ b → link_or a b ≡ link
    → AreThreads script threads → AreServers (λ row. is_spent row.stage) objects threads locks owned servers
    → MayLink threads other servers new → EachMayOwe other new accepted t.0 (owed_link o link ++ Sweep o ∷ [])
may_owe_link script objects threads other locks owned servers new accepted t o a b None ea eb e h s m = tt
may_owe_link script objects threads other locks owned servers new accepted t o (Some q) b (Some p) ea eb e h s m =
    let own : q ≡ p = cc in
    let r = linked_row (get_or threads o.0 None) q ea in
    let at : q.0 ≡ r.0.process.0 = (h.rows o.0 r.0 r.1).link q r.2 in
    let self = same_self o in
    let free : IsUnlinked other new q = (
      m.threads_none q.0 (subst (λ (n : ℕ). get_or threads n None ≡ None) (sym at) (h.processes o.0 r.0 r.1)),
      m.sessions_none q (s.links_apart o.0 r.0 q r.1 r.2),
    ) in
    ((subst (IsUnlinked other new) own free, omega arith), tt)
may_owe_link script objects threads other locks owned servers new accepted t o None (Some q) (Some p) ea eb e h s m =
    let own : q ≡ p = cc in
    let free = s.unlinked q (s.sessions o q eb) in
    let self = same_self o in
    ((subst (IsUnlinked other new) own (m.threads_none q.0 free.0, m.sessions_none q free.1), omega arith), tt)
may_owe_link script objects threads other locks owned servers new accepted t o None None (Some p) ea eb e h s m = absurd (cc)

open_detached : (x : Option SessionRow)
    → (open_bit (option_map detached x) ≡ open_bit x) × (unclosed_bit (option_map detached x) ≡ unclosed_bit x)
open_detached None = (refl, refl)
open_detached (Some row) = (refl, refl)

-- a session that is detached is open, or isn't, as before
pub detached_bits : (servers : ServerRows) (o : ObjNo)
    → (total open_bit (after_detach servers o).sessions ≡ total open_bit servers.sessions)
    × ((s : ObjNo) → unclosed_bit (session_at (after_detach servers o) s) ≡ unclosed_bit (session_at servers s))
detached_bits servers o =
    let a = total-with open_bit (option_map detached) None servers.sessions o.0 refl in
    let c = open_detached (get_or servers.sessions o.0 None) in
    let d = c.0 in (
      omega arith,
      λ s. mapped-value unclosed_bit detached servers.sessions o.0 s.0 (λ row. refl),
    )

pub sound-closed : (last : Bool) (script : Script) (S : State) (t : ObjNo) (h : Holder) (o : ObjNo)
    (handles : List (List HandleSlot)) (threads : List (Option ThreadRow)) (owed : List (List Owed))
    (servers : ServerRows) (owned : List (List ObjNo))
    → dies S o ≡ last → t.0 < length S.references.threads → HasLost script S t h o handles threads owed servers owned
    → AreRows script S
    → Sound script S (record S {
      references = record S.references {
        objects = objects_closed last o S.references.objects;
        handles = handles;
        threads = threads_closed last o threads;
        owed = owing owed t (owed_by_close last o (link_of S o));
      };
      serving = record S.serving { servers = servers_closed last o servers; owned = owned };
    }) (closed_effects last h o)
sound-closed false script S t h o handles threads owed servers owned e inside_t lost rows =
    let T : State = record S {
      references = record S.references
          { handles = handles; threads = threads; owed = owing owed t [] };
      serving = record S.serving { servers = servers; owned = owned };
    } in
    let here : t.0 < length owed = let a = rows.references.sized.duties in let b = lost.owed_long in omega arith in
    let few = lost.duties.few t.0 in
    let alive : IsAlive (object_of S o) = rows.lives.alive o (let a = lost.counts o in let b = same_self o in omega arith) in
    sound-of script S T (closed_effects false h o) rows (record {
      handles_long = lost.handles_long;
      threads_long = lost.threads_long;
      owed_long = length-set owed t.0 _ ∙ lost.owed_long;
      objects_few = rows.references.sized.objects_few;
      tables = lost.tables;
      threads = lost.threads_are;
      duties = duties-owing threads servers S.serving.messages.accepted owed t [] tt (omega arith) lost.going lost.duties;
      synchronization =
          synchronization-left script S S.references.objects threads (owing owed t []) (λ k none. none)
          (synchronization-then script S threads owed (owing owed t []) lost.synchronization
          (leaves-owing threads owed t [] S.synchronization.locks (λ u x. refl))) rows;
      services = lost.services;
      spent = lost.spent;
      serving = lost.serving;
    })
    (lives-closed false S T h o e alive refl refl refl
    (λ p. let a = total-owing (owed_names p) owed t [] here in let b = lost.counts p in omega arith)
    (λ p. let a = total-owing (owed_sweeps p) owed t [] here in let b = lost.sweeps p in omega arith) lost.seeks)
    (holders-closed false S T h o (λ g x. let a = total-owing (owed_by g x) owed t [] here in let b = lost.held g x in omega arith))
sound-closed true script S t h o handles threads owed servers owned e inside_t lost rows =
    let f = unlinked in
    let link = link_of S o in
    let more = owed_link o link ++ Sweep o ∷ [] in
    let other = with_row threads o f in
    let new = after_detach servers o in
    let old = get_or threads o.0 None in
    let objects = slice_set S.references.objects o.0 (dead_row (get_or S.references.objects o.0 None)) in
    let T : State = record S {
      references = record S.references
          { objects = objects; handles = handles; threads = other; owed = owing owed t more };
      serving = record S.serving { servers = new; owned = owned };
    } in
    let here : t.0 < length owed = let a = rows.references.sized.duties in let b = lost.owed_long in omega arith in
    let few : total weight (get_or owed t.0 []) + total weight more ≤ 12 =
    subst (λ (last : Bool). total weight (get_or owed t.0 []) + total weight (owed_by_close last o link) ≤ 12) e
    lost.few in
    let alive : IsAlive (object_of S o) = rows.lives.alive o (let a = lost.counts o in let b = same_self o in omega arith) in
    let named : (p : ObjNo) → option_names p (link_of_row old) + option_names p (server_of servers o) ≡ option_names p link = λ p.
    let a = names_link (link_of_row old) (server_of servers o) p
    (one_link S.references.objects threads S.synchronization.locks owned servers o lost.serving.servers) in
    let b = ap (option_names p) lost.link in omega arith in
    let may : MayLink threads other servers new = record {
      threads_none = none-with_row threads o f;
      sessions_none = λ x none. mapped-none detached servers.sessions o.0 x.0 none;
    } in
    let bits = detached_bits servers o in
    let used = bits.0 in
    let those = died-those S.references.objects o.0 in
    let kept = messages-kept (IsUntold S.synchronization.requests S.synchronization.logons) threads servers
    S.serving.messages o f (record {
      live = λ row live. live;
      waits = λ row live. refl;
      left = λ row. omega arith;
    }) lost.serving.messages in
    sound-of script S T (closed_effects true h o) rows (record {
      handles_long = lost.handles_long;
      threads_long = length-with_row threads o f ∙ lost.threads_long;
      owed_long = length-set owed t.0 _ ∙ lost.owed_long;
      objects_few =
          let a = length-set S.references.objects o.0 (dead_row (get_or S.references.objects o.0 None)) in
          let b = rows.references.sized.objects_few in
          omega arith;
      tables = lost.tables;
      threads = threads-with_row script threads o f (λ row is r. record {
        thread = record {
          process = r.process;
          link = λ p linked. cc;
          priority = r.priority;
          next_instruction = r.next_instruction;
          unused = r.unused;
          registers = r.registers;
          declared = r.declared;
          returns = r.returns;
        };
        process = refl;
        role = refl;
      }) lost.threads_are;
      duties = duties-owing other new S.serving.messages.accepted owed t more
          (may_owe_link script S.references.objects threads other S.synchronization.locks owned servers new
          S.serving.messages.accepted t o (link_of_row old)
          (server_of servers o) link refl refl lost.link lost.threads_are lost.serving.servers may) few
          ((paid-with_row threads o f (λ row r. r) t.0).going lost.going)
          (duties-servers other servers new S.serving.messages.accepted S.serving.messages.accepted owed (omega arith)
          (λ x _. may.sessions_none x)
          (duties-threads threads other servers S.serving.messages.accepted owed (λ k. inr (paid-with_row threads o f (λ row r. r) k)) lost.duties));
      synchronization =
          synchronization-left script S objects other (owing owed t more) those
          (synchronization-then script S other owed (owing owed t more)
          (synchronization-row script S threads owed o f (λ row r. r) (λ row. refl) (λ row. refl) lost.synchronization)
          (leaves-owing other owed t more S.synchronization.locks (link_unowned o link))) rows;
      services = services-row threads o f S.services (λ row is. refl) lost.services;
      spent = spent-died S.references.objects handles threads o lost.spent;
      serving = record {
        servers =
            servers-detached (λ row. is_spent row.stage) S.references.objects objects other S.synchronization.locks owned servers o
            (those, λ x apart over. ap is_over (sym (get_or-set_other S.references.objects o.0 x.0 _ None (λ e. apart (sym e)))) ∙ over)
            (servers-kept (λ row. is_spent row.stage)
            S.references.objects threads S.synchronization.locks owned servers o f (λ row. refl)
            (λ row. refl) (λ row p e. absurd (cc)) lost.serving.servers);
        messages =
            messages-sessions (IsUntold S.synchronization.requests S.synchronization.logons) other servers new
            S.serving.messages (λ message among is. mapped-some detached servers.sessions o.0 message.row.session.0 ∙ is)
            (λ x. let a = bits.1 x in let b = kept.closed x in omega arith)
            (let a = kept.numbered in omega arith) kept;
      };
    })
    (lives-closed true S T h o e alive refl refl refl
    (λ p.
    let a = count-with_row threads o f p in
    let b = kernel-with_row threads o f p (λ row is. refl) in
    let c = (without_link old p).0 in
    let k = count-detached servers.sessions o p in
    let d = total-owing (owed_names p) owed t more here in
    let g = (link_owed o link p).0 in
    let i = named p in
    let j = lost.counts p in omega arith)
    (λ p. let a = total-owing (owed_sweeps p) owed t more here in let b = lost.sweeps p in let c = (link_owed o link p).1 in omega arith)
    (λ p place. seeks-with_row threads o f (λ row is x n. refl) p place ∙ lost.seeks p place))
    (holders-closed true S T h o (λ g x.
    let a = rows-with_row handles threads S.synchronization.mutexes o f g x (λ row is. refl) in
    let n = without_link old x in
    let b : (if is_holder (Temp o) g then use_names x (option_map f old) else 0)
    ≡ (if is_holder (Temp o) g then use_names x old else 0) =
    ap (λ (y : ℕ). if is_holder (Temp o) g then y else 0) n.1 in
    let c = if_zero (is_holder (Link o) g) (link_names x (option_map f old)) n.2 in
    let d : (if is_holder (Link o) g then link_names x old else 0) +
    (if is_holder (Link o) g then option_names x (server_of servers o) else 0)
    ≡ (if is_holder (Link o) g then option_names x link else 0) =
    if_both (is_holder (Link o) g) (link_names x old) (option_names x (server_of servers o)) (option_names x link)
    (let m = n.3 in let q = named x in omega arith) in
    let s = holds-detached owned servers.sessions S.serving.messages.outstanding o g x in
    let i = total-owing (owed_by g x) owed t more here in
    let j = link_owed_by o link g x in
    let k = lost.held g x in omega arith))

-- a close owes little
pub close_weight : (last : Bool) (o : ObjNo) (link : Option ObjNo) → total weight (owed_by_close last o link) ≤ 3
close_weight true o None = omega arith
close_weight _ o _ = omega arith

-- and least where the object has no link
pub close_weight_unlinked : (last : Bool) (o : ObjNo) (link : Option ObjNo) → link ≡ None → total weight (owed_by_close last o link) ≤ 1
close_weight_unlinked false o link e = omega arith
close_weight_unlinked true o None e = omega arith
close_weight_unlinked true o (Some p) e = absurd (cc)
