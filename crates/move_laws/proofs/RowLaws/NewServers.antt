-- The rows of servers and sessions, where an object becomes a session or a server.
use Rattle.std.proofs.Common.{◌≡◌, ◌≢◌, inl, inr, ℕ, ◌<◌, ◌≤◌, Bool, true, false, List, [], ◌∷◌, ◌++◌, length, get_or, refl, sym, ap, subst, ◌∙◌, arith, Option, Some, None}
use Rattle.std.specs.Prelude.{is_some, slice_set}
use Rattle.std.proofs.lemmas.Bool.{cases_eq}
use Rattle.std.proofs.lemmas.List.{length-set, get_or-set_same, get_or-set_other}
use Rattle.sym_base.specs.declared.limits.TheConstants.Limits.{OBJECTS}
use Rattle.sym_base.specs.declared.kind.Slots.{Slots}
use Rattle.sym_base.specs.declared.number.ObjNo.{ObjNo}
use Rattle.state_rows.proofs.SoundChanges.{set_item}
use Rattle.state_rows.specs.Locks.{owner_at}
use Rattle.state_rows.specs.ServerChanges.{after_add_server, after_add_session, new_session}
use Rattle.state_rows.specs.ServerRows.{IsServer, closes, holds, link_of, linked_at, server_at, server_of, session_at}
use Rattle.state_rows.specs.declared.locks.LockRows.{LockRows}
use Rattle.state_rows.specs.declared.servers.ServerRow.{ServerRow}
use Rattle.state_rows.specs.declared.servers.ServerRows.{ServerRows}
use Rattle.state_rows.specs.declared.servers.SessionRow.{SessionRow}
use Rattle.state_rows.specs.declared.object.ObjectRow.{ObjectRow}
use Rattle.state_rows.specs.declared.thread.ThreadRow.{ThreadRow}
use Rattle.machine.specs.References.{same}
use Rattle.machine.specs.Serving.{AreServers, is_over, times_owned}
use Rattle.machine.specs.WellFormed.{IsAlive}
use Rattle.move_laws.proofs.Lists.Sets.{set_own}
use Rattle.move_laws.proofs.Lives.Bits.{alive_there, there_inside}
use Rattle.move_laws.proofs.Readiness.ReadyLists.{unlisted-push}
use Rattle.move_laws.proofs.References.Same.{same_object}
use Rattle.move_laws.proofs.RowLaws.LockChanges.{apart_there}
use Rattle.move_laws.proofs.RowLaws.Servers.{owner, still_server}

-- a session that comes behind others is listed, and they are
push_holds : (s y : ObjNo) (l : List ObjNo) → holds y (l ++ s ∷ []) ≡ true → (y.0 ≢ s.0) → holds y l ≡ true
push_holds s y l there apart = by (holds y l) refl
  where
    by : (b : Bool) → holds y l ≡ b → holds y l ≡ true
    by true is = is
    by false is = let none = unlisted-push l s y is (λ e. apart (sym e)) in absurd (cc)

-- a living object isn't over
pub alive_not_over : (row : Option ObjectRow) → IsAlive row → is_over row ≡ false
alive_not_over None h = absurd h
alive_not_over (Some row) h = h

-- an object becomes a session, which is linked to a server
pub record MayBeSession (objects : List (Option ObjectRow)) (threads : List (Option ThreadRow)) (owned : List (List ObjNo))
    (r : ServerRows) (s o : ObjNo) : Type 0 where
  pub few : length objects ≤ OBJECTS
  pub alive : IsAlive (get_or objects s.0 None)
  pub server_made : is_some (get_or objects o.0 None) ≡ true
  pub thread : get_or threads s.0 None ≡ None
  pub unlinked : (k : ℕ) (row : ThreadRow) → get_or threads k None ≡ Some row → row.link ≡ Some s → ⊥
  pub other : s.0 ≢ o.0
  pub fresh : session_at r s ≡ None
  pub unowned : (t : ObjNo) → times_owned owned t s ≡ 0
  pub unnamed : (y : ObjNo) → server_of r y ≡ Some s → ⊥
  pub server : IsServer r o

module _ (spent : ThreadRow → Bool) (objects : List (Option ObjectRow)) (threads : List (Option ThreadRow)) (locks : LockRows) (owned : List (List ObjNo)) where
  pub servers-join : (r : ServerRows) (s o : ObjNo) (slots : Slots) (u : ObjNo)
      → MayBeSession objects threads owned r s o → AreServers spent objects threads locks owned r
      → AreServers spent objects threads locks owned (after_add_session r s o slots u)
  servers-join r s o slots u may h = record {
    servers_sized = length-set r.servers s.0 _ ∙ h.servers_sized;
    sessions_sized = length-set r.sessions s.0 _ ∙ h.sessions_sized;
    linked_sized = length-set r.linked o.0 _ ∙ h.linked_sized;
    owned_sized = h.owned_sized;
    owners = λ t x some. still_server r new t x (ap owner (server_there x (owned_apart t x some))) (h.owners t x some);
    once = h.once;
    closing = λ k row x is dead some. ap closes (server_there x (owned_apart (record { 0 = k }) x some)) ∙ h.closing k row x is dead some;
    none = h.none;
    unlinked =
        λ x is. let apart = server_apart x is in let was = h.unlinked x (sym (ap is_some (server_there x apart)) ∙ is) in
        (was.0, session_there x apart ∙ was.1);
    unlocked = λ x is. h.unlocked x (sym (ap is_some (server_there x (server_apart x is))) ∙ is);
    sessions = λ y x at. elim (cases_eq y.0 s.0) as (λ _. IsServer new x) [
      | inl same ↦
          let e : Some o ≡ Some x = sym (ap link_of (session_here y same)) ∙ at in
          let own : o ≡ x = cc in
          subst (λ (z : ObjNo). IsServer new z) own (ap is_some (server_there o (λ e. may.other (sym e))) ∙ may.server)
      | inr apart ↦
          let was : server_of r y ≡ Some x = sym (ap link_of (session_there y apart)) ∙ at in
          ap is_some (server_there x (λ e. may.unnamed y (was ∙ ap Some (same_object x s e)))) ∙ h.sessions y x was
    ];
    sessions_apart = λ y thread. session_there y (thread_apart y thread) ∙ h.sessions_apart y thread;
    links_apart = λ k row p is link. session_there p (λ e. may.unlinked k row is (link ∙ ap Some (same_object p s e))) ∙ h.links_apart k row p is link;
    sessions_over = λ y over. ap link_of (session_there y (over_apart y over)) ∙ h.sessions_over y over;
    linked = λ y x listed. elim (cases_eq o.0 x.0) as (λ _. server_of new y ≡ Some x) [
      | inl at ↦ elim (cases_eq y.0 s.0) as (λ _. server_of new y ≡ Some x) [
        | inl same ↦ ap link_of (session_here y same) ∙ ap Some (same_object o x at)
        | inr apart ↦
            let now : linked_at new x ≡ linked_at r o ++ s ∷ [] = ap (λ (n : ℕ). get_or new.linked n []) (sym at)
            ∙ get_or-set_same r.linked o.0 (linked_at r o ++ s ∷ []) [] linked_inside in
            let was = h.linked y o (push_holds s y (linked_at r o) (ap (holds y) (sym now) ∙ listed) apart) in
            ap link_of (session_there y apart) ∙ was ∙ ap Some (same_object o x at)
      ]
      | inr apart ↦
          let was = h.linked y x (ap (holds y) (sym (get_or-set_other r.linked o.0 x.0 (linked_at r o ++ s ∷ []) [] (λ e. apart (sym e)))) ∙ listed) in
          ap link_of (session_there y (unlinked_apart y x was)) ∙ was
    ];
    sessions_made = λ y gone. session_there y (apart_there objects s y (alive_there (get_or objects s.0 None) may.alive) gone) ∙ h.sessions_made y gone;
    linked_made = λ x gone.
        get_or-set_other r.linked o.0 x.0 (linked_at r o ++ s ∷ []) [] (apart_there objects o x may.server_made gone) ∙ h.linked_made x gone;
  }
    where
      new : ServerRows
      new = after_add_session r s o slots u

      made : s.0 < length objects
      made = there_inside objects s.0 (alive_there (get_or objects s.0 None) may.alive)

      thread_apart : (y : ObjNo) → is_some (get_or threads y.0 None) ≡ true → y.0 ≢ s.0
      thread_apart y thread e =
          let none : is_some (get_or threads y.0 None) ≡ false = ap (λ (n : ℕ). is_some (get_or threads n None)) e ∙ ap is_some may.thread in cc

      over_apart : (y : ObjNo) → is_over (get_or objects y.0 None) ≡ true → y.0 ≢ s.0
      over_apart y over e =
          let alive = alive_not_over (get_or objects s.0 None) may.alive in
          let here : is_over (get_or objects s.0 None) ≡ true = ap (λ (n : ℕ). is_over (get_or objects n None)) (sym e) ∙ over in cc

      linked_inside : o.0 < length r.linked
      linked_inside = let a = there_inside objects o.0 may.server_made in let b = may.few in let c = h.linked_sized in omega arith

      server_there : (x : ObjNo) → x.0 ≢ s.0 → server_at new x ≡ server_at r x
      server_there x apart = get_or-set_other r.servers s.0 x.0 None None apart

      session_there : (x : ObjNo) → x.0 ≢ s.0 → session_at new x ≡ session_at r x
      session_there x apart = get_or-set_other r.sessions s.0 x.0 (Some (new_session o slots u)) None apart

      session_here : (y : ObjNo) → y.0 ≡ s.0 → session_at new y ≡ Some (new_session o slots u)
      session_here y at = ap (λ (n : ℕ). get_or new.sessions n None) at
          ∙ get_or-set_same r.sessions s.0 (Some (new_session o slots u)) None
          (let a = made in let b = may.few in let c = h.sessions_sized in omega arith)

      owned_apart : (t x : ObjNo) → 0 < times_owned owned t x → x.0 ≢ s.0
      owned_apart t x some e = let none : times_owned owned t x ≡ 0 = ap (times_owned owned t) (same_object x s e) ∙ may.unowned t in absurd (omega arith)

      server_apart : (x : ObjNo) → IsServer new x → x.0 ≢ s.0
      server_apart x is e =
          let gone : server_at new x ≡ None = ap (λ (n : ℕ). get_or new.servers n None) e
          ∙ get_or-set_same r.servers s.0 None None
          (let a = made in let b = may.few in let c = h.servers_sized in omega arith) in
          let none : is_some (server_at new x) ≡ false = ap is_some gone in cc

      unlinked_apart : (y x : ObjNo) → server_of r y ≡ Some x → y.0 ≢ s.0
      unlinked_apart y x was e = let none : server_of r y ≡ None = ap (λ (n : ℕ). link_of (get_or r.sessions n None)) e ∙ ap link_of may.fresh in cc

-- an object that is made next becomes a server of a thread
pub record MayBeServer (objects : List (Option ObjectRow)) (threads : List (Option ThreadRow)) (locks : LockRows) (owned : List (List ObjNo))
    (o : ObjNo) : Type 0 where
  pub object : get_or objects o.0 None ≡ None
  pub thread : get_or threads o.0 None ≡ None
  pub unowned : (t : ObjNo) → times_owned owned t o ≡ 0
  pub unlocked : owner_at locks o ≡ None

module _ (spent : ThreadRow → Bool) (objects : List (Option ObjectRow)) (threads : List (Option ThreadRow)) (locks : LockRows) (owned : List (List ObjNo)) where
  servers-added : (r : ServerRows) (o : ObjNo) (row : ServerRow) → MayBeServer objects threads locks owned o
      → AreServers spent objects threads locks owned r
      → AreServers spent objects threads locks owned (record r { servers = slice_set r.servers o.0 (Some row) })
  servers-added r o row may h = record {
    servers_sized = length-set r.servers o.0 _ ∙ h.servers_sized;
    sessions_sized = h.sessions_sized;
    linked_sized = h.linked_sized;
    owned_sized = h.owned_sized;
    owners = λ t x some. still_server r new t x (ap owner (there x (owned_apart t x some))) (h.owners t x some);
    once = h.once;
    closing = λ k thread x is dead some. ap closes (there x (owned_apart (record { 0 = k }) x some)) ∙ h.closing k thread x is dead some;
    none = h.none;
    unlinked = λ x is. elim (cases_eq x.0 o.0) [
      | inl at ↦ (ap (λ (n : ℕ). get_or threads n None) at ∙ may.thread, h.sessions_made x (ap (λ (n : ℕ). get_or objects n None) at ∙ may.object))
      | inr apart ↦ h.unlinked x (sym (ap is_some (there x apart)) ∙ is)
    ];
    unlocked = λ x is. elim (cases_eq x.0 o.0) as (λ _. owner_at locks x ≡ None) [
      | inl at ↦ ap (owner_at locks) (same_object x o at) ∙ may.unlocked
      | inr apart ↦ h.unlocked x (sym (ap is_some (there x apart)) ∙ is)
    ];
    sessions = λ y x at. set_item (λ (z : Option ServerRow). is_some z ≡ true) r.servers o.0 x.0 (Some row) None (λ _. refl) (h.sessions y x at);
    sessions_apart = h.sessions_apart;
    links_apart = h.links_apart;
    sessions_over = h.sessions_over;
    linked = h.linked;
    sessions_made = h.sessions_made;
    linked_made = h.linked_made;
  }
    where
      new : ServerRows
      new = record r { servers = slice_set r.servers o.0 (Some row) }

      there : (x : ObjNo) → x.0 ≢ o.0 → server_at new x ≡ server_at r x
      there x apart = get_or-set_other r.servers o.0 x.0 (Some row) None apart

      owned_apart : (t x : ObjNo) → 0 < times_owned owned t x → x.0 ≢ o.0
      owned_apart t x some e = let none : times_owned owned t x ≡ 0 = ap (times_owned owned t) (same_object x o e) ∙ may.unowned t in absurd (omega arith)

  -- it was no session before
  pub unmade_session : (r : ServerRows) (o u : ObjNo) → get_or objects o.0 None ≡ None → AreServers spent objects threads locks owned r
      → after_add_server r o u ≡ record r {
        servers = slice_set r.servers o.0
            (Some (record { owner = u; is_closing = false }));
      }
  unmade_session r o u none h =
      let own : slice_set r.sessions o.0 None ≡ r.sessions = ap (slice_set r.sessions o.0) (sym (h.sessions_made o none)) ∙ set_own r.sessions o.0 None in
      ap (λ (sessions : List (Option SessionRow)). record r
      { servers = slice_set r.servers o.0 (Some (record { owner = u; is_closing = false })); sessions = sessions }) own

  pub servers-start : (r : ServerRows) (o u : ObjNo) → MayBeServer objects threads locks owned o
      → AreServers spent objects threads locks owned r
      → AreServers spent objects threads locks owned (after_add_server r o u)
  servers-start r o u may h =
      subst (AreServers spent objects threads locks owned) (sym (unmade_session r o u may.object h))
      (servers-added r o (record { owner = u; is_closing = false }) may h)
