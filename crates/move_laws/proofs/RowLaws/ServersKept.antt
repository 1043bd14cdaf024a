-- The rows of servers and sessions, where the rows of threads change, an object is made, or a mutex changes hands.
use Rattle.std.proofs.Common.{◌≡◌, ◌≢◌, inl, inr, ℕ, ◌<◌, ◌≤◌, Bool, true, false, List, [], length, get_or, set, arith, refl, sym, ap, subst, ◌∙◌, Option, Some, None}
use Rattle.std.specs.Prelude.{is_some}
use Rattle.std.proofs.lemmas.Bool.{cases_eq}
use Rattle.std.proofs.lemmas.List.{get_or-set_other, length-set}
use Rattle.sym_base.specs.declared.number.ObjNo.{ObjNo}
use Rattle.state_rows.proofs.SoundChanges.{set_item}
use Rattle.state_rows.specs.Locks.{owner_at}
use Rattle.state_rows.specs.ObjectRows.{with_object}
use Rattle.state_rows.specs.ServerChanges.{after_sweep}
use Rattle.state_rows.specs.ServerRows.{IsServer, closes, holds, is_closing, link_of, linked_at, server_at, server_of, session_at}
use Rattle.state_rows.specs.declared.locks.LockRows.{LockRows}
use Rattle.state_rows.specs.declared.locks.Owner.{Owner}
use Rattle.state_rows.specs.declared.servers.ServerRow.{ServerRow}
use Rattle.state_rows.specs.declared.servers.ServerRows.{ServerRows}
use Rattle.state_rows.specs.declared.servers.SessionRow.{SessionRow}
use Rattle.state_rows.specs.declared.object.ObjectRow.{ObjectRow}
use Rattle.state_rows.specs.declared.thread.ThreadRow.{ThreadRow}
use Rattle.machine.specs.Rows.{with_row}
use Rattle.machine.specs.Serving.{AreServers, is_over, times_owned}
use Rattle.machine.specs.ThreadCalls.{is_live}
use Rattle.move_laws.proofs.Lives.LivesMove.{zero_or}
use Rattle.move_laws.proofs.Lists.Sets.{set_default}
use Rattle.move_laws.proofs.Lives.NewObjects.{made-other, made-own}
use Rattle.move_laws.proofs.References.Same.{same_object}
use Rattle.move_laws.proofs.RowLaws.Servers.{owner, still_server}
use Rattle.move_laws.proofs.RowLaws.Locks.{HasThose}
use Rattle.move_laws.proofs.RowLaws.Threads.{length-with_row, none-with_row, was_row}

-- objects of which none more is over
abbrev pub KeepsOver : List (Option ObjectRow) → List (Option ObjectRow) → Type 0
KeepsOver objects more = (k : ℕ) → is_over (get_or more k None) ≡ true → is_over (get_or objects k None) ≡ true

-- such are those with a new one that is alive
pub made-over : (objects : List (Option ObjectRow)) (n : ℕ) (new : ObjectRow) → n ≤ length objects → new.dead ≡ false
    → KeepsOver objects (with_object objects n new)
made-over objects n new le alive k over = elim (cases_eq k n) as (λ _. is_over (get_or objects k None) ≡ true) [
  | inl at ↦
      let a : is_over (get_or (with_object objects n new) k None) ≡ false = ap (λ (i : ℕ). is_over (get_or (with_object objects n new) i None)) at
      ∙ ap is_over (made-own objects n new le) ∙ alive in cc
  | inr apart ↦ ap is_over (sym (made-other objects n k new le apart)) ∙ over
]

-- what a thread of a row owns: all of that is closing where it isn't live, and it is nothing where it has given up all; and it is linked to no session
pub record OwnsAs (spent : ThreadRow → Bool) (owned : List (List ObjNo)) (r : ServerRows) (k : ℕ) (row : ThreadRow) : Type 0 where
  pub closing : is_live row.stage ≡ false → (o : ObjNo) → 0 < times_owned owned (record { 0 = k }) o → is_closing r o ≡ true
  pub none : spent row ≡ true → get_or owned k [] ≡ []
  pub link : (p : ObjNo) → row.link ≡ Some p → session_at r p ≡ None

-- other rows of as many threads, of which none is new, and as many objects or more
pub servers-threads : (spent : ThreadRow → Bool) (objects more : List (Option ObjectRow)) (threads other : List (Option ThreadRow))
    (locks : LockRows) (owned : List (List ObjNo)) (r : ServerRows)
    → HasThose objects more → KeepsOver objects more → length other ≡ length threads
    → ((k : ℕ) → get_or threads k None ≡ None → get_or other k None ≡ None)
    → ((k : ℕ) (row : ThreadRow) → get_or other k None ≡ Some row → OwnsAs spent owned r k row)
    → AreServers spent objects threads locks owned r → AreServers spent more other locks owned r
servers-threads spent objects more threads other locks owned r those over long none owns h = record {
  servers_sized = h.servers_sized;
  sessions_sized = h.sessions_sized;
  linked_sized = h.linked_sized;
  owned_sized = h.owned_sized ∙ sym long;
  owners = h.owners;
  once = h.once;
  closing = λ k row o is dead some. (owns k row is).closing dead o some;
  none = λ k row is gone. (owns k row is).none gone;
  unlinked = λ o is. let a = h.unlinked o is in (none o.0 a.0, a.1);
  unlocked = h.unlocked;
  sessions = h.sessions;
  sessions_apart = λ s thread. by s thread (get_or threads s.0 None) refl;
  links_apart = λ k row p is link. (owns k row is).link p link;
  sessions_over = λ s done. h.sessions_over s (over s.0 done);
  linked = h.linked;
  sessions_made = λ s gone. h.sessions_made s (those s.0 gone);
  linked_made = λ o gone. h.linked_made o (those o.0 gone);
}
  where
    by : (s : ObjNo) → is_some (get_or other s.0 None) ≡ true → (x : Option ThreadRow) → get_or threads s.0 None ≡ x → session_at r s ≡ None
    by s thread None is = let gone : is_some (get_or other s.0 None) ≡ false = ap is_some (none s.0 is) in absurd (cc)
    by s thread (Some row) is = h.sessions_apart s (ap is_some is)

-- each thread owns so
pub owns_as : (spent : ThreadRow → Bool) (objects : List (Option ObjectRow)) (threads : List (Option ThreadRow)) (locks : LockRows)
    (owned : List (List ObjNo)) (r : ServerRows)
    → AreServers spent objects threads locks owned r → (k : ℕ) (row : ThreadRow) → get_or threads k None ≡ Some row
    → OwnsAs spent owned r k row
owns_as spent objects threads locks owned r h k row is = record {
  closing = λ dead o some. h.closing k row o is dead some;
  none = λ gone. h.none k row is gone;
  link = λ p link. h.links_apart k row p is link;
}

pub servers-more : (spent : ThreadRow → Bool) (objects more : List (Option ObjectRow)) (threads : List (Option ThreadRow)) (locks : LockRows)
    (owned : List (List ObjNo)) (r : ServerRows)
    → HasThose objects more → KeepsOver objects more → AreServers spent objects threads locks owned r → AreServers spent more threads locks owned r
servers-more spent objects more threads locks owned r those over h =
    servers-threads spent objects more threads threads locks owned r those over (omega arith) (λ k none. none)
    (owns_as spent objects threads locks owned r h) h

-- a row changes, after which its thread owns so still
pub servers-with_row : (spent : ThreadRow → Bool) (objects : List (Option ObjectRow)) (threads : List (Option ThreadRow)) (locks : LockRows)
    (owned : List (List ObjNo)) (r : ServerRows) (u : ObjNo) (f : ThreadRow → ThreadRow)
    → ((row : ThreadRow) → get_or threads u.0 None ≡ Some row → OwnsAs spent owned r u.0 row
    → OwnsAs spent owned r u.0 (f row))
    → AreServers spent objects threads locks owned r → AreServers spent objects (with_row threads u f) locks owned r
servers-with_row spent objects threads locks owned r u f keeps h =
    let owns = owns_as spent objects threads locks owned r h in
    servers-threads spent objects objects threads (with_row threads u f) locks owned r (λ k none. none) (λ k over. over) (length-with_row threads u f) (none-with_row threads u f)
    (λ k row is. was_row threads u f (OwnsAs spent owned r) (λ old was. keeps old was (owns u.0 old was)) owns k row is) h

-- but for its stage and its link
pub servers-kept : (spent : ThreadRow → Bool) (objects : List (Option ObjectRow)) (threads : List (Option ThreadRow)) (locks : LockRows)
    (owned : List (List ObjNo)) (r : ServerRows) (u : ObjNo) (f : ThreadRow → ThreadRow)
    → ((row : ThreadRow) → (f row).stage ≡ row.stage) → ((row : ThreadRow) → spent (f row) ≡ spent row)
    → ((row : ThreadRow) (p : ObjNo) → (f row).link ≡ Some p → row.link ≡ Some p)
    → AreServers spent objects threads locks owned r → AreServers spent objects (with_row threads u f) locks owned r
servers-kept spent objects threads locks owned r u f stage same link h = servers-with_row spent objects threads locks owned r u f
    (λ row is has. record {
      closing = λ dead o some. has.closing (sym (ap is_live (stage row)) ∙ dead) o some;
      none = λ gone. has.none (sym (same row) ∙ gone);
      link = λ p is. has.link p (link row p is);
    }) h

-- a thread's row goes
pub servers-swept : (spent : ThreadRow → Bool) (objects : List (Option ObjectRow)) (threads : List (Option ThreadRow)) (locks : LockRows)
    (owned : List (List ObjNo)) (r : ServerRows) (o : ℕ)
    → AreServers spent objects threads locks owned r → AreServers spent objects (set threads o None) locks owned r
servers-swept spent objects threads locks owned r o h =
    servers-threads spent objects objects threads (set threads o None) locks owned r (λ k none. none) (λ k over. over)
    (length-set threads o None)
    (λ k. set_item (λ (x : Option ThreadRow). x ≡ None) threads o k None None (λ at. refl))
    (λ k row is. owns_as spent objects threads locks owned r h k row
    (set_item (λ (x : Option ThreadRow). x ≡ Some row → get_or threads k None ≡ Some row) threads o k None None
    (λ at e. absurd (cc)) (λ e. e) is)) h

-- other rows of mutexes and semaphores, in which nobody owns a server as a mutex
pub servers-locks : (spent : ThreadRow → Bool) (objects : List (Option ObjectRow)) (threads : List (Option ThreadRow)) (locks new : LockRows)
    (owned : List (List ObjNo)) (r : ServerRows)
    → ((o : ObjNo) → IsServer r o → owner_at new o ≡ None) → AreServers spent objects threads locks owned r
    → AreServers spent objects threads new owned r
servers-locks spent objects threads locks new owned r none h = record {
  servers_sized = h.servers_sized;
  sessions_sized = h.sessions_sized;
  linked_sized = h.linked_sized;
  owned_sized = h.owned_sized;
  owners = h.owners;
  once = h.once;
  closing = h.closing;
  none = h.none;
  unlinked = h.unlinked;
  unlocked = none;
  sessions = h.sessions;
  sessions_apart = h.sessions_apart;
  links_apart = h.links_apart;
  sessions_over = h.sessions_over;
  linked = h.linked;
  sessions_made = h.sessions_made;
  linked_made = h.linked_made;
}

-- where the owner of one object changes
pub unlocked-set : (locks : LockRows) (r : ServerRows) (o : ObjNo) (owner : Option Owner)
    → (IsServer r o → owner_at locks o ≡ None → owner ≡ None) → ((x : ObjNo) → IsServer r x → owner_at locks x ≡ None)
    → (x : ObjNo) → IsServer r x → get_or (set locks.owners o.0 owner) x.0 None ≡ None
unlocked-set locks r o owner keeps none x is = set_item (λ (w : Option Owner). w ≡ None) locks.owners o.0 x.0 owner None
    (λ at. let here : IsServer r o = subst (λ (y : ObjNo). IsServer r y) (same_object x o at) is in keeps here (none o here)) (none x is)

-- nobody owns what is no server
pub unowned-other : (spent : ThreadRow → Bool) (objects : List (Option ObjectRow)) (threads : List (Option ThreadRow)) (locks : LockRows)
    (owned : List (List ObjNo)) (r : ServerRows) (t o : ObjNo)
    → server_at r o ≡ None → AreServers spent objects threads locks owned r → times_owned owned t o ≡ 0
unowned-other spent objects threads locks owned r t o none h =
    zero_or (times_owned owned t o) (λ some. let v = h.owners t o some in let is = v.is in absurd (cc))

-- nor what a thread owns as a mutex
pub unowned-locked : (spent : ThreadRow → Bool) (objects : List (Option ObjectRow)) (threads : List (Option ThreadRow)) (locks : LockRows)
    (owned : List (List ObjNo)) (r : ServerRows) (t o : ObjNo) (owner : Owner)
    → owner_at locks o ≡ Some owner → AreServers spent objects threads locks owned r → times_owned owned t o ≡ 0
unowned-locked spent objects threads locks owned r t o owner held h =
    zero_or (times_owned owned t o) (λ some. let v = h.owners t o some in let free = h.unlocked o (rw v.is refl) in
    absurd (cc))

-- a number that no object has any more: nobody owned it, no session was linked to it, and it was linked to no server
pub record IsUnserved (objects : List (Option ObjectRow)) (owned : List (List ObjNo)) (r : ServerRows) (o : ObjNo) : Type 0 where
  pub unowned : (t : ObjNo) → times_owned owned t o ≡ 0
  pub unnamed : (s : ObjNo) → server_of r s ≡ Some o → ⊥
  pub over : is_over (get_or objects o.0 None) ≡ true

pub servers-gone : (spent : ThreadRow → Bool) (objects : List (Option ObjectRow)) (threads : List (Option ThreadRow))
    (locks : LockRows) (owned : List (List ObjNo)) (r : ServerRows) (o : ObjNo)
    → IsUnserved objects owned r o → AreServers spent objects threads locks owned r
    → AreServers spent (set objects o.0 None) threads locks owned (after_sweep r o)
servers-gone spent objects threads locks owned r o may h = record {
  servers_sized = length-set r.servers o.0 None ∙ h.servers_sized;
  sessions_sized = length-set r.sessions o.0 None ∙ h.sessions_sized;
  linked_sized = length-set r.linked o.0 [] ∙ h.linked_sized;
  owned_sized = h.owned_sized;
  owners = λ t x some. still_server r new t x (ap owner (server_there x (owned_apart t x some))) (h.owners t x some);
  once = h.once;
  closing = λ k row x is dead some. ap closes (server_there x (owned_apart (record { 0 = k }) x some)) ∙ h.closing k row x is dead some;
  none = h.none;
  unlinked = λ x is. let was = h.unlinked x (server_was x is) in (was.0, session_none x was.1);
  unlocked = λ x is. h.unlocked x (server_was x is);
  sessions = λ s x at.
      let was = session_was s x at in
      ap is_some (server_there x (λ e. may.unnamed s (was ∙ ap Some (same_object x o e)))) ∙ h.sessions s x was;
  sessions_apart = λ s thread. session_none s (h.sessions_apart s thread);
  links_apart = λ k row p is link. session_none p (h.links_apart k row p is link);
  sessions_over = λ s done. elim (cases_eq s.0 o.0) as (λ _. server_of new s ≡ None) [
    | inl at ↦ ap link_of (set_default r.sessions o.0 s.0 None at)
    | inr apart ↦ ap link_of (session_there s apart)
        ∙ h.sessions_over s (ap is_over (sym (get_or-set_other objects o.0 s.0 None None apart)) ∙ done)
  ];
  linked = λ s x listed.
      let was = h.linked s x (listed_was s x listed) in
      ap link_of (session_there s (λ e. none_over s e x was)) ∙ was;
  sessions_made = λ s gone. elim (cases_eq s.0 o.0) as (λ _. session_at new s ≡ None) [
    | inl at ↦ set_default r.sessions o.0 s.0 None at
    | inr apart ↦ session_there s apart ∙ h.sessions_made s (sym (get_or-set_other objects o.0 s.0 None None apart) ∙ gone)
  ];
  linked_made = λ x gone. elim (cases_eq x.0 o.0) as (λ _. linked_at new x ≡ []) [
    | inl at ↦ set_default r.linked o.0 x.0 [] at
    | inr apart ↦ get_or-set_other r.linked o.0 x.0 [] [] apart
        ∙ h.linked_made x (sym (get_or-set_other objects o.0 x.0 None None apart) ∙ gone)
  ];
}
  where
    new : ServerRows
    new = after_sweep r o

    server_there : (x : ObjNo) → x.0 ≢ o.0 → server_at new x ≡ server_at r x
    server_there x apart = get_or-set_other r.servers o.0 x.0 None None apart

    session_there : (x : ObjNo) → x.0 ≢ o.0 → session_at new x ≡ session_at r x
    session_there x apart = get_or-set_other r.sessions o.0 x.0 None None apart

    session_none : (x : ObjNo) → session_at r x ≡ None → session_at new x ≡ None
    session_none x none = set_item (λ (y : Option SessionRow). y ≡ None) r.sessions o.0 x.0 None None (λ _. refl) none

    owned_apart : (t x : ObjNo) → 0 < times_owned owned t x → x.0 ≢ o.0
    owned_apart t x some e = let none : times_owned owned t x ≡ 0 = ap (times_owned owned t) (same_object x o e) ∙ may.unowned t in absurd (omega arith)

    server_was : (x : ObjNo) → IsServer new x → IsServer r x
    server_was x is = set_item (λ (y : Option ServerRow). is_some y ≡ true → IsServer r x) r.servers o.0 x.0 None None (λ _ e. absurd (cc)) (λ e. e) is

    session_was : (s x : ObjNo) → server_of new s ≡ Some x → server_of r s ≡ Some x
    session_was s x = set_item (λ (y : Option SessionRow). link_of y ≡ Some x → server_of r s ≡ Some x) r.sessions o.0 s.0 None None (λ _ e. absurd (cc)) (λ e. e)

    listed_was : (s x : ObjNo) → holds s (linked_at new x) ≡ true → holds s (linked_at r x) ≡ true
    listed_was s x = set_item (λ (l : List ObjNo). holds s l ≡ true → holds s (linked_at r x) ≡ true) r.linked o.0 x.0 [] [] (λ _ e. absurd (cc)) (λ e. e)

    none_over : (s : ObjNo) → s.0 ≡ o.0 → (x : ObjNo) → server_of r s ≡ Some x → ⊥
    none_over s at x was =
        let none : server_of r s ≡ None = h.sessions_over s (ap (λ (n : ℕ). is_over (get_or objects n None)) at ∙ may.over) in cc
