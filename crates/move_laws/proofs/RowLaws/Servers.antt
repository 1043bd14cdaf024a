-- The rows of servers and sessions, where a row changes, and where a session is detached.
use Rattle.std.proofs.Common.{◌≡◌, inl, inr, ℕ, Bool, true, List, [], length, get_or, refl, sym, ap, ◌∙◌, Option, Some, None}
use Rattle.std.specs.Prelude.{◌==◌, not, option_map, slice_set}
use Rattle.std.proofs.lemmas.Bool.{cases_eq, eq-eqb, and_parts}
use Rattle.std.proofs.lemmas.List.{length-set}
use Rattle.sym_base.specs.declared.number.ObjNo.{ObjNo}
use Rattle.state_rows.proofs.SoundChanges.{set_item}
use Rattle.state_rows.specs.ServerChanges.{after_closing, after_detach, closing, detached, unlisted, without}
use Rattle.state_rows.specs.ServerRows.{IsServer, closes, holds, link_of, server_at, server_of, session_at}
use Rattle.state_rows.specs.declared.locks.LockRows.{LockRows}
use Rattle.state_rows.specs.declared.servers.ServerRow.{ServerRow}
use Rattle.state_rows.specs.declared.servers.ServerRows.{ServerRows}
use Rattle.state_rows.specs.declared.servers.SessionRow.{SessionRow}
use Rattle.state_rows.specs.declared.object.ObjectRow.{ObjectRow}
use Rattle.state_rows.specs.declared.thread.ThreadRow.{ThreadRow}
use Rattle.machine.specs.References.{same}
use Rattle.machine.specs.Serving.{AreServers, IsServerOf, is_over}
use Rattle.move_laws.proofs.Lists.Mapped.{made-here, made-other, mapped-none, mapped-some, mapped-value}
use Rattle.move_laws.proofs.Readiness.ReadyLists.{listed-filter}
use Rattle.move_laws.proofs.RowLaws.Locks.{HasThose}

-- the owner that a row has
abbrev pub owner : Option ServerRow → Option ObjNo
owner row = option_map (λ (r : ServerRow). r.owner) row

-- a server with the owner that it had is that thread's still
pub still_server : (r new : ServerRows) (t o : ObjNo) → owner (server_at new o) ≡ owner (server_at r o) → IsServerOf r t o → IsServerOf new t o
still_server r new t o same h = by (server_at new o) refl
  where
    by : (row : Option ServerRow) → server_at new o ≡ row → IsServerOf new t o
    by None is = let a : owner (server_at new o) ≡ Some h.row.owner = same
        ∙ ap owner h.is in let b : owner (server_at new o) ≡ None = ap owner is in absurd (cc)
    by (Some row) is =
        let a : Some row.owner ≡ Some h.row.owner = sym (ap owner is) ∙ same ∙ ap owner h.is in
        let e : row.owner ≡ h.row.owner = cc in
        record { row = row; is = is; owner = ap (λ (u : ObjNo). u.0) e ∙ h.owner }

pub closing_closes : (x : Option ServerRow) → closes x ≡ true → closes (option_map closing x) ≡ true
closing_closes None e = e
closing_closes (Some row) e = refl

module _ (spent : ThreadRow → Bool) (objects : List (Option ObjectRow)) (threads : List (Option ThreadRow)) (locks : LockRows) (owned : List (List ObjNo)) where
  -- a server begins to close
  pub servers-closing : (r : ServerRows) (o : ObjNo) → AreServers spent objects threads locks owned r
      → AreServers spent objects threads locks owned (after_closing r o)
  servers-closing r o h = record {
    servers_sized = length-set r.servers o.0 _ ∙ h.servers_sized;
    sessions_sized = h.sessions_sized;
    linked_sized = h.linked_sized;
    owned_sized = h.owned_sized;
    owners = λ t x some. still_server r (after_closing r o) t x (mapped-value owner closing r.servers o.0 x.0 (λ row. refl)) (h.owners t x some);
    once = h.once;
    closing = λ k row x is dead some. set_item (λ (y : Option ServerRow). closes y ≡ true) r.servers o.0 x.0 (option_map closing (server_at r o)) None
        (λ at. closing_closes (server_at r o) (ap (λ (n : ℕ). closes (get_or r.servers n None)) (sym at)
        ∙ h.closing k row x is dead some)) (h.closing k row x is dead some);
    none = h.none;
    unlinked = λ x is. h.unlinked x (was x is);
    unlocked = λ x is. h.unlocked x (was x is);
    sessions = λ s x at. mapped-some closing r.servers o.0 x.0 ∙ h.sessions s x at;
    sessions_apart = h.sessions_apart;
    links_apart = h.links_apart;
    sessions_over = h.sessions_over;
    linked = h.linked;
    sessions_made = h.sessions_made;
    linked_made = h.linked_made;
  }
    where
      was : (x : ObjNo) → IsServer (after_closing r o) x → IsServer r x
      was x is = sym (mapped-some closing r.servers o.0 x.0) ∙ is

  -- a session's row changes, but for its server
  pub servers-session : (r : ServerRows) (s : ObjNo) (f : SessionRow → SessionRow)
      → ((row : SessionRow) → (f row).server ≡ row.server) → AreServers spent objects threads locks owned r
      → AreServers spent objects threads locks owned
      (record r { sessions = slice_set r.sessions s.0 (option_map f (session_at r s)) })
  servers-session r s f keeps h = record {
    servers_sized = h.servers_sized;
    sessions_sized = length-set r.sessions s.0 _ ∙ h.sessions_sized;
    linked_sized = h.linked_sized;
    owned_sized = h.owned_sized;
    owners = λ t x some. let was = h.owners t x some in record { row = was.row; is = was.is; owner = was.owner };
    once = h.once;
    closing = h.closing;
    none = h.none;
    unlinked = λ x is. let was = h.unlinked x is in (was.0, mapped-none f r.sessions s.0 x.0 was.1);
    unlocked = h.unlocked;
    sessions = λ y x at. h.sessions y x (sym (same y) ∙ at);
    sessions_apart = λ y thread. mapped-none f r.sessions s.0 y.0 (h.sessions_apart y thread);
    links_apart = λ k row p is link. mapped-none f r.sessions s.0 p.0 (h.links_apart k row p is link);
    sessions_over = λ y over. same y ∙ h.sessions_over y over;
    linked = λ y x there. same y ∙ h.linked y x there;
    sessions_made = λ y past. mapped-none f r.sessions s.0 y.0 (h.sessions_made y past);
    linked_made = h.linked_made;
  }
    where
      same : (y : ObjNo) → server_of (record r { sessions = slice_set r.sessions s.0 (option_map f (session_at r s)) }) y ≡ server_of r y
      same y = mapped-value link_of f r.sessions s.0 y.0 keeps

detached_link : (x : Option SessionRow) → link_of (option_map detached x) ≡ None
detached_link None = refl
detached_link (Some row) = refl

length-unlisted : (v : Option ObjNo) (s : ObjNo) (linked : List (List ObjNo)) → length (unlisted v s linked) ≡ length linked
length-unlisted None s linked = refl
length-unlisted (Some v) s linked = length-set linked v.0 _

none-unlisted : (v : Option ObjNo) (s : ObjNo) (linked : List (List ObjNo)) (j : ℕ) → get_or linked j [] ≡ [] → get_or (unlisted v s linked) j [] ≡ []
none-unlisted None s linked j none = none
none-unlisted (Some v) s linked j none =
    set_item (λ (l : List ObjNo). l ≡ []) linked v.0 j (without s (get_or linked v.0 [])) []
    (λ at. ap (λ (n : ℕ). without s (get_or linked n [])) (sym at) ∙ ap (without s) none) none

-- whoever is listed then was listed, and isn't the session that one server has no more
unlisted-holds : (v : Option ObjNo) (s y : ObjNo) (linked : List (List ObjNo)) (j : ℕ)
    → holds y (get_or (unlisted v s linked) j []) ≡ true
    → (holds y (get_or linked j []) ≡ true) × ((w : ObjNo) → v ≡ Some w → w.0 ≡ j → y.0 ≡ s.0 → ⊥)
unlisted-holds None s y linked j there = (there, λ w e at same. cc)
unlisted-holds (Some v) s y linked j there =
    elim (cases_eq v.0 j) as (λ _. (holds y (get_or linked j []) ≡ true)
    × ((w : ObjNo) → Some v ≡ Some w → w.0 ≡ j → y.0 ≡ s.0 → ⊥)) [
      | inl at ↦
          let here : holds y (without s (get_or linked j [])) ≡ true = ap (holds y) (sym (made-here (without s) [] linked v.0 j refl at)) ∙ there in
          let parts = and_parts (holds y (get_or linked j [])) (not (y.0 == s.0))
          (sym (listed-filter (λ (other : ObjNo). not (other.0 == s.0)) (get_or linked j []) y) ∙ here) in
          (parts.0, λ w e is same. let yes = eq-eqb y.0 s.0 same in let no = parts.1 in cc)
      | inr apart ↦ (
        ap (holds y) (sym (made-other (without s) [] linked v.0 j apart)) ∙ there,
        λ w e is same. let own : v ≡ w = cc in
            apart (ap (λ (x : ObjNo). x.0) own ∙ is),
      )
    ]

-- Other objects, of which none is over that wasn't, but for one
abbrev pub OthersLast : List (Option ObjectRow) → List (Option ObjectRow) → ObjNo → Type 0
OthersLast objects more o =
    HasThose objects more × ((x : ObjNo) → (o.0 ≡ x.0 → ⊥) → is_over (get_or more x.0 None) ≡ true → is_over (get_or objects x.0 None) ≡ true)

-- a session is detached, and may be over then
module _ (spent : ThreadRow → Bool) (objects more : List (Option ObjectRow)) (threads : List (Option ThreadRow)) (locks : LockRows) (owned : List (List ObjNo)) where
  pub servers-detached : (r : ServerRows) (s : ObjNo) → OthersLast objects more s → AreServers spent objects threads locks owned r
      → AreServers spent more threads locks owned (after_detach r s)
  servers-detached r s last h = record {
    servers_sized = h.servers_sized;
    sessions_sized = length-set r.sessions s.0 _ ∙ h.sessions_sized;
    linked_sized = length-unlisted (server_of r s) s r.linked ∙ h.linked_sized;
    owned_sized = h.owned_sized;
    owners = λ t x some. let was = h.owners t x some in record { row = was.row; is = was.is; owner = was.owner };
    once = h.once;
    closing = h.closing;
    none = h.none;
    unlinked = λ x is. let was = h.unlinked x is in (was.0, mapped-none detached r.sessions s.0 x.0 was.1);
    unlocked = h.unlocked;
    sessions = λ y x at. elim (cases_eq s.0 y.0) as (λ _. IsServer r x) [
      | inl same ↦ let none = here y same in absurd (cc)
      | inr apart ↦ h.sessions y x (sym (there y apart) ∙ at)
    ];
    sessions_apart = λ y thread. mapped-none detached r.sessions s.0 y.0 (h.sessions_apart y thread);
    links_apart = λ k row p is link. mapped-none detached r.sessions s.0 p.0 (h.links_apart k row p is link);
    sessions_over = λ y over. elim (cases_eq s.0 y.0) as (λ _. server_of (after_detach r s) y ≡ None) [
      | inl same ↦ here y same
      | inr apart ↦ there y apart ∙ h.sessions_over y (last.1 y apart over)
    ];
    linked = λ y x listed.
        let kept = unlisted-holds (server_of r s) s y r.linked x.0 listed in
        let was = h.linked y x kept.0 in
        elim (cases_eq s.0 y.0) as (λ _. server_of (after_detach r s) y ≡ Some x) [
          | inl same ↦ absurd (kept.1 x (ap (λ (n : ℕ). link_of (get_or r.sessions n None)) same ∙ was) refl (sym same))
          | inr apart ↦ there y apart ∙ was
        ];
    sessions_made = λ y gone. mapped-none detached r.sessions s.0 y.0 (h.sessions_made y (last.0 y.0 gone));
    linked_made = λ x gone. none-unlisted (server_of r s) s r.linked x.0 (h.linked_made x (last.0 x.0 gone));
  }
    where
      here : (y : ObjNo) → s.0 ≡ y.0 → server_of (after_detach r s) y ≡ None
      here y at = ap link_of (made-here (option_map detached) None r.sessions s.0 y.0 refl at) ∙ detached_link (session_at r y)

      there : (y : ObjNo) → (s.0 ≡ y.0 → ⊥) → server_of (after_detach r s) y ≡ server_of r y
      there y apart = ap link_of (made-other (option_map detached) None r.sessions s.0 y.0 apart)

-- with the same objects
pub servers-detach : (spent : ThreadRow → Bool) (objects : List (Option ObjectRow)) (threads : List (Option ThreadRow))
    (locks : LockRows) (owned : List (List ObjNo)) (r : ServerRows) (s : ObjNo)
    → AreServers spent objects threads locks owned r → AreServers spent objects threads locks owned (after_detach r s)
servers-detach spent objects threads locks owned r s h =
    servers-detached spent objects objects threads locks owned r s ((λ k none. none), (λ x apart over. over)) h
