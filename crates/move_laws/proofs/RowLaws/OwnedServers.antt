-- The rows of servers and sessions, where a thread owns a server more or less.
use Rattle.std.proofs.Common.{◌≡◌, ◌⊎◌, inl, inr, ℕ, ◌<◌, ◌≤◌, Bool, true, false, List, [], length, get_or, sym, ap, subst, ◌∙◌, arith, Option, Some, None}
use Rattle.std.specs.Prelude.{◌==◌}
use Rattle.std.proofs.lemmas.Bool.{cases_eq, cases_lt, eq-eqb}
use Rattle.std.proofs.lemmas.List.{length-set, get_or-set_other, get_or_past}
use Rattle.sym_base.specs.declared.number.ObjNo.{ObjNo}
use Rattle.entry_log.specs.declared.effect.Holder.TheVariants.{Own}
use Rattle.state_rows.proofs.SoundChanges.{set_item}
use Rattle.state_rows.specs.Locks as lock
use Rattle.state_rows.specs.ServerRows.{is_closing}
use Rattle.state_rows.specs.declared.locks.LockRows.{LockRows}
use Rattle.state_rows.specs.declared.servers.ServerRows.{ServerRows}
use Rattle.state_rows.specs.declared.object.ObjectRow.{ObjectRow}
use Rattle.state_rows.specs.declared.thread.ThreadRow.{ThreadRow}
use Rattle.machine.specs.References.{mutex_names, same, total}
use Rattle.machine.specs.ServerMoves.{owned_gain, owned_lose}
use Rattle.machine.specs.ThreadCalls.{is_live}
use Rattle.machine.specs.Serving.{AreServers, IsServerOf, times_owned}
use Rattle.move_laws.proofs.References.Mutexes.{held-holding, held-not_holding}
use Rattle.move_laws.proofs.RowLaws.Locks.{HasThose}
use Rattle.move_laws.proofs.RowLaws.ServersKept.{KeepsOver}
use Rattle.move_laws.proofs.References.Same.{eqb_apart, if_is, if_le, if_not, same_is, same_le, same_object}

-- who owns something is a thread
pub owned_inside : (owned : List (List ObjNo)) (t o : ObjNo) → 0 < times_owned owned t o → t.0 < length owned
owned_inside owned t o some = elim (cases_lt t.0 (length owned)) as (λ _. t.0 < length owned) [
  | inl inside ↦ inside
  | inr past ↦ let none : times_owned owned t o ≡ 0 = ap (total (mutex_names o)) (get_or_past owned t.0 [] past) in absurd (omega arith)
]

-- threads own fewer servers
pub servers-fewer : (spent : ThreadRow → Bool) (objects : List (Option ObjectRow)) (threads : List (Option ThreadRow)) (locks : LockRows)
    (owned other : List (List ObjNo)) (r : ServerRows)
    → length other ≡ length owned → ((t o : ObjNo) → times_owned other t o ≤ times_owned owned t o)
    → ((k : ℕ) → get_or owned k [] ≡ [] → get_or other k [] ≡ [])
    → AreServers spent objects threads locks owned r → AreServers spent objects threads locks other r
servers-fewer spent objects threads locks owned other r long fewer nothing h = record {
  servers_sized = h.servers_sized;
  sessions_sized = h.sessions_sized;
  linked_sized = h.linked_sized;
  owned_sized = long ∙ h.owned_sized;
  owners = λ t o some. let le = fewer t o in h.owners t o (omega arith);
  once = λ t o. let le = fewer t o in let a = h.once t o in omega arith;
  closing = λ k row o is dead some. let le = fewer (record { 0 = k }) o in h.closing k row o is dead (omega arith);
  none = λ k row is gone. nothing k (h.none k row is gone);
  unlinked = h.unlinked;
  unlocked = h.unlocked;
  sessions = h.sessions;
  sessions_apart = h.sessions_apart;
  links_apart = h.links_apart;
  sessions_over = h.sessions_over;
  linked = h.linked;
  sessions_made = h.sessions_made;
  linked_made = h.linked_made;
}

-- a thread owns a server more, which was set up for it and isn't owned yet
pub record MayOwn (spent : ThreadRow → Bool) (threads : List (Option ThreadRow)) (owned : List (List ObjNo)) (r : ServerRows) (t o : ObjNo) : Type 0 where
  pub server : IsServerOf r t o
  pub live : (row : ThreadRow) → get_or threads t.0 None ≡ Some row → (is_live row.stage ≡ true) × (spent row ≡ false)
  pub inside : t.0 < length owned
  pub unowned : (u : ObjNo) → times_owned owned u o ≡ 0

-- who owns something then owned it, or is the thread and owns that server
owned_then : (owned : List (List ObjNo)) (t o u x : ObjNo) → t.0 < length owned
    → 0 < times_owned (owned_gain (Own t) o owned) u x → (0 < times_owned owned u x) ⊎ ((t ≡ u) × (o ≡ x))
owned_then owned t o u x inside some =
    let more = held-holding owned t o u x inside in
    elim (cases_lt 0 (times_owned owned u x)) as (λ _. (0 < times_owned owned u x) ⊎ ((t ≡ u) × (o ≡ x))) [
      | inl had ↦ inl had
      | inr none ↦ elim (cases_eq t.0 u.0) as (λ _. (0 < times_owned owned u x) ⊎ ((t ≡ u) × (o ≡ x))) [
        | inl at ↦ let a = if_is (t.0 == u.0) (same o x) (eq-eqb t.0 u.0 at) in inr (same_object t u at, same_is o x (omega arith))
        | inr apart ↦ let a = if_not (t.0 == u.0) (same o x) (eqb_apart t.0 u.0 apart) in absurd (omega arith)
      ]
    ]

pub servers-owned : (spent : ThreadRow → Bool) (objects more : List (Option ObjectRow)) (threads : List (Option ThreadRow)) (locks : LockRows)
    (owned : List (List ObjNo)) (r : ServerRows) (t o : ObjNo)
    → HasThose objects more → KeepsOver objects more → MayOwn spent threads owned r t o
    → AreServers spent objects threads locks owned r → AreServers spent more threads locks (owned_gain (Own t) o owned) r
servers-owned spent objects more threads locks owned r t o those over may h = record {
  servers_sized = h.servers_sized;
  sessions_sized = h.sessions_sized;
  linked_sized = h.linked_sized;
  owned_sized = length-set owned t.0 _ ∙ h.owned_sized;
  owners = λ u x some. elim (then u x some) as (λ _. IsServerOf r u x) [
    | inl had ↦ h.owners u x had
    | inr own ↦ subst (λ (v : ObjNo). IsServerOf r v x) own.0 (subst (IsServerOf r t) own.1 may.server)
  ];
  once = λ u x. let a = held-holding owned t o u x may.inside in let b = if_le (t.0 == u.0) (same o x) in let c = same_le o x in let d = h.once u x in
      elim (cases_lt 0 (same o x)) as (λ _. times_owned (owned_gain (Own t) o owned) u x ≤ 1) [
        | inl one ↦ let none : times_owned owned u x ≡ 0 = ap (times_owned owned u) (sym (same_is o x one)) ∙ may.unowned u in omega arith
        | inr none_same ↦ omega arith
      ];
  closing = λ k row x is dead some. elim (then (record { 0 = k }) x some) as (λ _. is_closing r x ≡ true) [
    | inl had ↦ h.closing k row x is dead had
    | inr own ↦ let live = (may.live row (subst (λ (v : ObjNo). get_or threads v.0 None ≡ Some row) (sym own.0) is)).0 in absurd (cc)
  ];
  none = λ k row is gone. elim (cases_eq k t.0) as (λ _. get_or (owned_gain (Own t) o owned) k [] ≡ []) [
    | inl at ↦ let live = (may.live row (subst (λ (n : ℕ). get_or threads n None ≡ Some row) at is)).1 in absurd (cc)
    | inr apart ↦ get_or-set_other owned t.0 k _ [] apart ∙ h.none k row is gone
  ];
  unlinked = h.unlinked;
  unlocked = h.unlocked;
  sessions = h.sessions;
  sessions_apart = h.sessions_apart;
  links_apart = h.links_apart;
  sessions_over = λ x done. h.sessions_over x (over x.0 done);
  linked = h.linked;
  sessions_made = λ s none. h.sessions_made s (those s.0 none);
  linked_made = λ x none. h.linked_made x (those x.0 none);
}
  where
    then : (u x : ObjNo) → 0 < times_owned (owned_gain (Own t) o owned) u x → (0 < times_owned owned u x) ⊎ ((t ≡ u) × (o ≡ x))
    then u x some = owned_then owned t o u x may.inside some

-- and one less
pub servers-unowned : (spent : ThreadRow → Bool) (objects : List (Option ObjectRow)) (threads : List (Option ThreadRow)) (locks : LockRows)
    (owned : List (List ObjNo)) (r : ServerRows) (t o : ObjNo)
    → t.0 < length owned → times_owned owned t o ≡ 1 → AreServers spent objects threads locks owned r
    → AreServers spent objects threads locks (owned_lose (Own t) o owned) r
servers-unowned spent objects threads locks owned r t o inside once h =
    servers-fewer spent objects threads locks owned (owned_lose (Own t) o owned) r (length-set owned t.0 _)
    (λ u x. let a = held-not_holding owned t o u x inside once in omega arith)
    (λ k nothing. set_item (λ (l : List ObjNo). l ≡ []) owned t.0 k (lock.without o (get_or owned t.0 [])) []
    (λ at. ap (λ (n : ℕ). lock.without o (get_or owned n [])) (sym at) ∙ ap (lock.without o) nothing) nothing) h
