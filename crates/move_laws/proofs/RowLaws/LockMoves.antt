-- Moves in the rows of mutexes and semaphores keep them, where they fit.
use Rattle.std.proofs.Common.{◌≡◌, ◌≢◌, ◌⊎◌, inl, inr, ℕ, zero, suc, ◌+◌, ◌-◌, ◌<◌, ◌≤◌, List, [], ◌∷◌, ◌++◌, length, map, get_or, set, arith, refl, sym, ap, subst, ◌∙◌, Option, Some, None, Bool, true, false, ltb-true}
use Rattle.std.specs.Prelude.{◌==◌, is_some, not, if◌then◌else◌, nat_lt, pos}
use Rattle.std.proofs.lemmas.Bool.{and_parts, cases_Bool, cases_eq, eqb-true}
use Rattle.std.proofs.lemmas.List.{get_or-set_other}
use Rattle.sym_base.specs.declared.limits.TheConstants.Limits.{OBJECTS}
use Rattle.sym_base.specs.declared.number.ObjNo.{ObjNo}
use Rattle.entry_log.specs.declared.effect.Holder.TheVariants.{Own}
use Rattle.state_rows.specs.declared.duty.Owed.{Owed}
use Rattle.state_rows.specs.declared.duty.Owed.TheVariants.{Close}
use Rattle.state_rows.specs.declared.locks.Locked.TheVariants.{Taken, Again, Waits}
use Rattle.state_rows.specs.declared.locks.Owner.{Owner}
use Rattle.state_rows.specs.declared.locks.Signalled.{Signalled}
use Rattle.state_rows.specs.declared.locks.Signalled.TheVariants.{Counted, Woke, Overflow}
use Rattle.state_rows.specs.declared.locks.Unlocked.TheVariants.{Level, Freed, Passed, NotOwner}
use Rattle.state_rows.specs.declared.object.ObjectRow.{ObjectRow}
use Rattle.state_rows.specs.declared.thread.ThreadRow.{ThreadRow}
use Rattle.state_rows.specs.LockChanges.{after_lock, after_new_row, after_remove, after_signal, after_sweep, after_unlock, after_wait, count_after_signal, once, owner_after_lock, owner_after_unlock, waiters_after_signal}
use Rattle.state_rows.specs.Locks.{count_at, is_among, owner_at, waiters_at, without}
use Rattle.state_rows.proofs.SoundChanges.{set_item}
use Rattle.machine.specs.HeldIn.{owed_by}
use Rattle.machine.specs.LockMoves.{holding, not_holding}
use Rattle.machine.specs.References.{same, total}
use Rattle.machine.specs.Rows.{owing}
use Rattle.machine.specs.WellFormed.{AreLocks, IsOwnerOf, times_held}
use Rattle.move_laws.proofs.Holders.HoldersMove.{pair_self}
use Rattle.move_laws.proofs.Lists.Sets.{set_default, set_either}
use Rattle.move_laws.proofs.Lists.Totals.{total-append}
use Rattle.move_laws.proofs.Lives.LivesMove.{zero_or}
use Rattle.move_laws.proofs.References.Mutexes.{held-holding, held-not_holding}
use Rattle.move_laws.proofs.References.Same.{eqb_apart, if_not, if_zero, same_object, same_other}
use Rattle.move_laws.proofs.Readiness.ReadyLists.{listed-filter, unlisted-push}
use Rattle.move_laws.proofs.RowLaws.LockChanges.{AreLockParts, LockParts, MayStand, apart_there, locks-counted, locks-passed}
use Rattle.std.proofs.lemmas.List.{length-map, length-set}

-- whoever stands among waiters with one more behind them stood there, or is the one
among-push : (queue : List ObjNo) (t u : ObjNo) → is_among u (queue ++ t ∷ []) ≡ true → (is_among u queue ≡ true) ⊎ (t ≡ u)
among-push queue t u among = elim (cases_Bool (is_among u queue)) as (λ _. (is_among u queue ≡ true) ⊎ (t ≡ u)) [
  | inl there ↦ inl there
  | inr none ↦ elim (cases_eq t.0 u.0) as (λ _. (is_among u queue ≡ true) ⊎ (t ≡ u)) [
    | inl at ↦ inr (same_object t u at)
    | inr apart ↦ let still = unlisted-push queue t u none apart in absurd (cc)
  ]
]

-- and whoever stands among them without one did
among-without : (queue : List ObjNo) (t u : ObjNo) → is_among u (without t queue) ≡ true → is_among u queue ≡ true
among-without queue t u among = (and_parts (is_among u queue) (not (u.0 == t.0)) (sym (listed-filter (λ other. not (other.0 == t.0)) queue u) ∙ among)).0

-- the owner's thread stays, and so whether there is one
record KeepsOwner (old new : Option Owner) : Type 0 where
  pub was : (w : Owner) → new ≡ Some w → (v : Owner) × (old ≡ Some v) × (v.thread ≡ w.thread)
  pub is : (v : Owner) → old ≡ Some v → (w : Owner) × (new ≡ Some w) × (w.thread ≡ v.thread)

keeps-same : (owner : Option Owner) → KeepsOwner owner owner
keeps-same owner = record { was = λ w e. (w, e, refl); is = λ v e. (v, e, refl) }

keeps-level : (owner : Owner) (level : ℕ) → KeepsOwner (Some owner) (Some (record owner { level = level }))
keeps-level owner level = record {
  was = λ w e. (owner, refl, let same : record owner { level = level } ≡ w = cc in ap (λ (w : Owner). w.thread) same);
  is = λ v e. (record owner { level = level }, refl, let same : owner ≡ v = cc in ap (λ (w : Owner). w.thread) same);
}

keeps-again : (owner : Option Owner) (t : ObjNo) → KeepsOwner owner (owner_after_lock owner t Again)
keeps-again None t = keeps-same None
keeps-again (Some owner) t = keeps-level owner _

keeps-unlevel : (owner : Option Owner) → KeepsOwner owner (owner_after_unlock owner Level)
keeps-unlevel None = keeps-same None
keeps-unlevel (Some owner) = keeps-level owner _

-- the waiters of an object, where a thread stands nowhere any more
left_at : (waiters : List (List ObjNo)) (t : ObjNo) (k : ℕ) → get_or (map (without t) waiters) k [] ≡ without t (get_or waiters k [])
left_at [] t k = refl
left_at (queue ∷ rest) t zero = refl
left_at (queue ∷ rest) t (suc k) = left_at rest t k

pub locks-leave : (objects : List (Option ObjectRow)) (threads : List (Option ThreadRow)) (p : LockParts) (u : ObjNo)
    → AreLockParts objects threads p → AreLocks objects threads p.mutexes p.owed (after_remove p.rows u)
locks-leave objects threads p u h =
    let stood : (t o : ObjNo) → is_among t (waiters_at (after_remove p.rows u) o) ≡ true
    → is_among t (waiters_at p.rows o) ≡ true =
    λ t o among. among-without (waiters_at p.rows o) u t
    (ap (is_among t) (sym (left_at p.rows.waiters u o.0)) ∙ among) in
    record {
      owners_sized = h.owners_sized;
      counts_sized = h.counts_sized;
      waiters_sized = length-map p.rows.waiters (without u) ∙ h.waiters_sized;
      mutexes_sized = h.mutexes_sized;
      counts = h.counts;
      owned = h.owned;
      held = λ t o some. let was = h.held t o some in record { owner = was.owner; is = was.is; thread = was.thread };
      waiters = λ t o among. h.waiters t o (stood t o among);
      paid = λ t o among. h.paid t o (stood t o among);
      owners_made = h.owners_made;
      waiters_made = λ o past. left_at p.rows.waiters u o.0 ∙ ap (without u) (h.waiters_made o past);
      counts_made = h.counts_made;
    }

module _ (objects : List (Option ObjectRow)) (threads : List (Option ThreadRow)) (p : LockParts)
    (h : AreLockParts objects threads p) (few : length objects ≤ OBJECTS) (o : ObjNo)
    (made : is_some (get_or objects o.0 None) ≡ true) where
  -- whoever stands among the waiters
  stands : (t : ObjNo) → is_among t (waiters_at p.rows o) ≡ true → MayStand threads p.owed t o
  stands t among = record { waits = h.waiters t o among; paid = h.paid t o among }

  stands-push : (u : ObjNo) → MayStand threads p.owed u o → (t : ObjNo) → is_among t (waiters_at p.rows o ++ u ∷ []) ≡ true → MayStand threads p.owed t o
  stands-push u may t among = elim (among-push (waiters_at p.rows o) u t among) as (λ _. MayStand threads p.owed t o) [
    | inl there ↦ stands t there
    | inr at ↦ subst (λ (t : ObjNo). MayStand threads p.owed t o) at may
  ]

  -- the owner's thread stays
  kept_owner : (owner : Option Owner) (queue : List ObjNo) → KeepsOwner (owner_at p.rows o) owner
      → ((t : ObjNo) → is_among t queue ≡ true → MayStand threads p.owed t o)
      → AreLocks objects threads p.mutexes p.owed
      (record p.rows { owners = set p.rows.owners o.0 owner; waiters = set p.rows.waiters o.0 queue })
  kept_owner owner queue keeps waiting = locks-passed objects threads p o owner queue p.mutexes p.owed (record {
    made = made;
    few = few;
    long = refl;
    holds = λ t x apart. refl;
    owes = λ t x apart. refl;
    owned = λ w is. let v = keeps.was w is in subst (λ (t : ObjNo). times_held p.mutexes t o ≡ 1) v.2 (h.owned o v.0 v.1);
    held = λ t some. let v = h.held t o some in let w = keeps.is v.owner v.is in (w.0, w.1, ap (λ (t : ObjNo). t.0) w.2 ∙ v.thread);
    waiters = waiting;
  }) h

  -- a thread locks its own mutex again, or waits for another's
  pub locks-again : (t : ObjNo) → AreLocks objects threads p.mutexes p.owed (after_lock p.rows o t Again)
  locks-again t = kept_owner (owner_after_lock (owner_at p.rows o) t Again) (waiters_at p.rows o) (keeps-again (owner_at p.rows o) t) stands

  pub locks-waits : (t : ObjNo) → MayStand threads p.owed t o → AreLocks objects threads p.mutexes p.owed (after_lock p.rows o t Waits)
  locks-waits t may = kept_owner (owner_at p.rows o) (waiters_at p.rows o ++ t ∷ []) (keeps-same (owner_at p.rows o)) (stands-push t may)

  -- the owner unlocks it, but for its last level; and who isn't the owner doesn't
  pub locks-level : AreLocks objects threads p.mutexes p.owed (after_unlock p.rows o Level)
  locks-level = kept_owner (owner_after_unlock (owner_at p.rows o) Level) (waiters_at p.rows o) (keeps-unlevel (owner_at p.rows o)) stands

  pub locks-not_owner : AreLocks objects threads p.mutexes p.owed (after_unlock p.rows o NotOwner)
  locks-not_owner = kept_owner (owner_at p.rows o) (waiters_at p.rows o) (keeps-same (owner_at p.rows o)) stands

  -- nobody holds what nobody owns
  pub none_held : owner_at p.rows o ≡ None → (t : ObjNo) → times_held p.mutexes t o ≡ 0
  none_held free t = zero_or (times_held p.mutexes t o) (λ some. let v = h.held t o some in let is = v.is in absurd (cc))

  -- a thread takes a mutex that nobody holds, whichever threads hold what else
  taken : (mutexes : List (List ObjNo)) (t : ObjNo) (queue : List ObjNo) (owed : List (List Owed))
      → t.0 < length mutexes → length mutexes ≡ length p.mutexes → ((u : ObjNo) → times_held mutexes u o ≡ 0)
      → ((u x : ObjNo) → x.0 ≢ o.0 → times_held mutexes u x ≡ times_held p.mutexes u x)
      → ((u x : ObjNo) → x.0 ≢ o.0 → total (owed_by (Own u) x) (get_or owed u.0 [])
      ≡ total (owed_by (Own u) x) (get_or p.owed u.0 []))
      → ((u : ObjNo) → is_among u queue ≡ true → MayStand threads owed u o)
      → AreLocks objects threads (holding mutexes t o) owed (record p.rows { owners = set p.rows.owners o.0 (once t); waiters = set p.rows.waiters o.0 queue })
  taken mutexes t queue owed inside long none others owes waiting = locks-passed objects threads p o (once t) queue (holding mutexes t o) owed (record {
    made = made;
    few = few;
    long = length-set mutexes t.0 _ ∙ long;
    holds =
        λ u x apart. let a = held-holding mutexes t o u x inside in
        let b = if_zero (t.0 == u.0) (same o x) (same_other o x (λ e. apart (sym e))) in let c = others u x apart in
        omega arith;
    owes = owes;
    owned = λ w is.
        let own : record { thread = t; level = 1 } ≡ w = cc in
        subst (λ (w : Owner). times_held (holding mutexes t o) w.thread o ≡ 1) own
        (let a = held-holding mutexes t o t o inside in let b = pair_self (Own t) o in let c = none t in omega arith);
    held = λ u some. elim (cases_eq t.0 u.0) as (λ _. (w : Owner) × (once t ≡ Some w) × (w.thread.0 ≡ u.0)) [
      | inl at ↦ (record { thread = t; level = 1 }, refl, at)
      | inr apart ↦
          let a = held-holding mutexes t o u o inside in
          let b = if_not (t.0 == u.0) (same o o) (eqb_apart t.0 u.0 apart) in
          let c = none u in
          absurd (omega arith)
    ];
    waiters = waiting;
  }) h

  pub locks-taken : (t : ObjNo) → owner_at p.rows o ≡ None → t.0 < length p.mutexes
      → AreLocks objects threads (holding p.mutexes t o) p.owed (after_lock p.rows o t Taken)
  locks-taken t free inside = taken p.mutexes t (waiters_at p.rows o) p.owed inside refl (none_held free) (λ u x apart. refl) (λ u x apart. refl) stands

  -- a semaphore starts with its count
  pub locks-start : (count : ℕ) → count ≤ 2147483647 → AreLocks objects threads p.mutexes p.owed (after_new_row p.rows o (Some (pos count)))
  locks-start count small = record {
    owners_sized = h.owners_sized;
    counts_sized = length-set p.rows.counts o.0 count ∙ h.counts_sized;
    waiters_sized = h.waiters_sized;
    mutexes_sized = h.mutexes_sized;
    counts = λ x. set_item (λ (n : ℕ). n ≤ 2147483647) p.rows.counts o.0 x.0 count 0 (λ _. small) (h.counts x);
    owned = h.owned;
    held = λ t x some. let was = h.held t x some in record { owner = was.owner; is = was.is; thread = was.thread };
    waiters = h.waiters;
    paid = h.paid;
    owners_made = h.owners_made;
    waiters_made = h.waiters_made;
    counts_made = λ x none. get_or-set_other p.rows.counts o.0 x.0 count 0 (apart_there objects o x made none) ∙ h.counts_made x none;
  }

  -- a count changes
  pub locks-wait : (t : ObjNo) → (count_at p.rows o ≡ 0 → MayStand threads p.owed t o) → AreLocks objects threads p.mutexes p.owed (after_wait p.rows o t)
  locks-wait t joins = by (count_at p.rows o == 0) refl
    where
      small : count_at p.rows o - 1 ≤ 2147483647
      small = let a = h.counts o in omega arith

      by : (b : Bool) → (count_at p.rows o == 0) ≡ b
          → AreLocks objects threads p.mutexes p.owed
          (record p.rows {
            counts = set p.rows.counts o.0 (count_at p.rows o - 1);
            waiters = set p.rows.waiters o.0 (if b then waiters_at p.rows o ++ t ∷ [] else waiters_at p.rows o);
          })
      by true e = locks-counted objects threads p o _ (waiters_at p.rows o ++ t ∷ []) made few small
          (stands-push t (joins (eqb-true (count_at p.rows o) 0 e))) h
      by false e = locks-counted objects threads p o _ (waiters_at p.rows o) made few small stands h

  pub locks-signal : (signalled : Signalled) → AreLocks objects threads p.mutexes p.owed (after_signal p.rows o signalled)
  locks-signal signalled =
      locks-counted objects threads p o (count_after_signal (count_at p.rows o) signalled)
      (waiters_after_signal (waiters_at p.rows o) signalled) made few (small signalled) (waiting signalled) h
    where
      risen : (count : ℕ) (b : Bool) → nat_lt count 2147483647 ≡ b → count ≤ 2147483647 → (if b then count + 1 else count) ≤ 2147483647
      risen count true e le = let below = ltb-true count 2147483647 e in omega arith
      risen count false e le = le

      small : (signalled : Signalled) → count_after_signal (count_at p.rows o) signalled ≤ 2147483647
      small Counted = risen (count_at p.rows o) (nat_lt (count_at p.rows o) 2147483647) refl (h.counts o)
      small (Woke t) = h.counts o
      small Overflow = h.counts o

      waiting : (signalled : Signalled) (t : ObjNo) → is_among t (waiters_after_signal (waiters_at p.rows o) signalled) ≡ true → MayStand threads p.owed t o
      waiting Counted t among = stands t among
      waiting (Woke w) t among = stands t (among-without (waiters_at p.rows o) w t among)
      waiting Overflow t among = stands t among

  -- its owner gives a mutex up
  module _ (t : ObjNo) (owner : Owner) (is : owner_at p.rows o ≡ Some owner) (own : owner.thread.0 ≡ t.0)
      (inside : t.0 < length p.mutexes) (nowhere : is_among t (waiters_at p.rows o) ≡ false) where
    -- it held it once
    pub held_once : times_held p.mutexes t o ≡ 1
    held_once = subst (λ (u : ObjNo). times_held p.mutexes u o ≡ 1) (same_object owner.thread t own) (h.owned o owner is)

    abbrev given : List (List ObjNo)
    given = not_holding p.mutexes t o

    abbrev owes_close : List (List Owed)
    owes_close = owing p.owed t (Close (Own t) o ∷ [])

    -- so nobody holds it then
    pub given_none : (u : ObjNo) → times_held (not_holding p.mutexes t o) u o ≡ 0
    given_none u = elim (cases_eq t.0 u.0) as (λ _. times_held (not_holding p.mutexes t o) u o ≡ 0) [
      | inl at ↦
          subst (λ (u : ObjNo). times_held (not_holding p.mutexes t o) u o ≡ 0) (same_object t u at)
          (let a = held-not_holding p.mutexes t o t o inside held_once in let b = pair_self (Own t) o in
          let c = held_once in omega arith)
      | inr apart ↦
          let a = held-not_holding p.mutexes t o u o inside held_once in
          zero_or (times_held (not_holding p.mutexes t o) u o) (λ some.
          let v = h.held u o (omega arith) in
          let same : v.owner ≡ owner = (let e = v.is in cc) in
          absurd (apart (sym own ∙ ap (λ (w : Owner). w.thread.0) (sym same) ∙ v.thread)))
    ]

    given_others : (u x : ObjNo) → x.0 ≢ o.0 → times_held given u x ≡ times_held p.mutexes u x
    given_others u x apart = let a = held-not_holding p.mutexes t o u x inside held_once in
        let b = if_zero (t.0 == u.0) (same o x) (same_other o x (λ e. apart (sym e))) in omega arith

    -- it owes that close, and nobody owes any other
    owes_others : (u x : ObjNo) → x.0 ≢ o.0 → total (owed_by (Own u) x) (get_or owes_close u.0 []) ≡ total (owed_by (Own u) x) (get_or p.owed u.0 [])
    owes_others u x apart = elim (set_either p.owed t.0 (get_or p.owed t.0 [] ++ Close (Own t) o ∷ []) u.0 []) as
        (λ _. total (owed_by (Own u) x) (get_or owes_close u.0 []) ≡ total (owed_by (Own u) x) (get_or p.owed u.0 [])) [
          | inl at ↦
              let a = ap (total (owed_by (Own u) x)) at.1 in
              let b = total-append (owed_by (Own u) x) (get_or p.owed t.0 []) (Close (Own t) o ∷ []) in
              let c = if_zero (t.0 == u.0) (same o x) (same_other o x (λ e. apart (sym e))) in
              let d : total (owed_by (Own u) x) (get_or p.owed t.0 []) ≡ total (owed_by (Own u) x) (get_or p.owed u.0 []) =
              ap (λ (n : ℕ). total (owed_by (Own u) x) (get_or p.owed n [])) (sym at.0) in
              omega arith
          | inr e ↦ ap (total (owed_by (Own u) x)) e
        ]

    stands_then : (u : ObjNo) → is_among u (waiters_at p.rows o) ≡ true → MayStand threads owes_close u o
    stands_then u among = record {
      waits = h.waiters u o among;
      paid =
          ap (total (owed_by (Own u) o)) (get_or-set_other p.owed t.0 u.0 _ []
          (λ at. let same : is_among u (waiters_at p.rows o)
          ≡ is_among t (waiters_at p.rows o) = ap (λ (n : ℕ). is_among (record { 0 = n }) (waiters_at p.rows o)) at in
          absurd (cc)))
          ∙ h.paid u o among;
    }

    -- the mutex is free
    pub locks-freed : AreLocks objects threads (not_holding p.mutexes t o) (owing p.owed t (Close (Own t) o ∷ [])) (after_unlock p.rows o Freed)
    locks-freed = locks-passed objects threads p o None (waiters_at p.rows o) given owes_close (record {
      made = made;
      few = few;
      long = length-set p.mutexes t.0 _;
      holds = given_others;
      owes = owes_others;
      owned = λ w e. absurd (cc);
      held = λ u some. let a = given_none u in absurd (omega arith);
      waiters = stands_then;
    }) h

    -- or a waiter's
    pub locks-given : (w : ObjNo) → w.0 < length p.mutexes
        → AreLocks objects threads (holding (not_holding p.mutexes t o) w o) (owing p.owed t (Close (Own t) o ∷ []))
        (after_unlock p.rows o (Passed w))
    locks-given w there = taken given w (without w (waiters_at p.rows o)) owes_close
        (let long = length-set p.mutexes t.0 (without o (get_or p.mutexes t.0 [])) in omega arith)
        (length-set p.mutexes t.0 _) given_none given_others owes_others
        (λ u among. stands_then u (among-without (waiters_at p.rows o) w u among))

-- a number that no object has any more, to which nothing referred
pub locks-swept : (objects : List (Option ObjectRow)) (threads : List (Option ThreadRow)) (p : LockParts) (o : ObjNo)
    → ((t : ObjNo) → times_held p.mutexes t o ≡ 0) → AreLockParts objects threads p
    → AreLocks (set objects o.0 None) threads p.mutexes p.owed (after_sweep p.rows o)
locks-swept objects threads p o none h = record {
  owners_sized = length-set p.rows.owners o.0 nobody ∙ h.owners_sized;
  counts_sized = length-set p.rows.counts o.0 0 ∙ h.counts_sized;
  waiters_sized = length-set p.rows.waiters o.0 [] ∙ h.waiters_sized;
  mutexes_sized = h.mutexes_sized;
  counts = λ x. set_item (λ (n : ℕ). n ≤ 2147483647) p.rows.counts o.0 x.0 0 0 (λ _. omega arith) (h.counts x);
  owned = λ x owner. set_item (λ (y : Option Owner). y ≡ Some owner → times_held p.mutexes owner.thread x ≡ 1) p.rows.owners o.0 x.0 nobody None
      (λ at is. absurd (cc)) (h.owned x owner);
  held = λ t x some. elim (cases_eq x.0 o.0) as (λ _. IsOwnerOf (after_sweep p.rows o) t x) [
    | inl at ↦ let zero = subst (λ (y : ObjNo). times_held p.mutexes t y ≡ 0) (sym (same_object x o at)) (none t) in absurd (omega arith)
    | inr apart ↦ let was = h.held t x some in
        record { owner = was.owner; is = get_or-set_other p.rows.owners o.0 x.0 nobody None apart ∙ was.is; thread = was.thread }
  ];
  waiters = λ t x among. h.waiters t x (stood t x among);
  paid = λ t x among. h.paid t x (stood t x among);
  owners_made = λ x gone. elim (cases_eq x.0 o.0) as (λ _. owner_at (after_sweep p.rows o) x ≡ None) [
    | inl at ↦ set_default p.rows.owners o.0 x.0 None at
    | inr apart ↦ get_or-set_other p.rows.owners o.0 x.0 nobody None apart
        ∙ h.owners_made x (sym (get_or-set_other objects o.0 x.0 None None apart) ∙ gone)
  ];
  waiters_made = λ x gone. elim (cases_eq x.0 o.0) as (λ _. waiters_at (after_sweep p.rows o) x ≡ []) [
    | inl at ↦ set_default p.rows.waiters o.0 x.0 [] at
    | inr apart ↦ get_or-set_other p.rows.waiters o.0 x.0 [] [] apart
        ∙ h.waiters_made x (sym (get_or-set_other objects o.0 x.0 None None apart) ∙ gone)
  ];
  counts_made = λ x gone. elim (cases_eq x.0 o.0) as (λ _. count_at (after_sweep p.rows o) x ≡ 0) [
    | inl at ↦ set_default p.rows.counts o.0 x.0 0 at
    | inr apart ↦ get_or-set_other p.rows.counts o.0 x.0 0 0 apart
        ∙ h.counts_made x (sym (get_or-set_other objects o.0 x.0 None None apart) ∙ gone)
  ];
}
  where
    nobody : Option Owner
    nobody = None

    stood : (t x : ObjNo) → is_among t (waiters_at (after_sweep p.rows o) x) ≡ true → is_among t (waiters_at p.rows x) ≡ true
    stood t x = set_item (λ (queue : List ObjNo). is_among t queue ≡ true → is_among t (waiters_at p.rows x) ≡ true) p.rows.waiters o.0 x.0 [] []
        (λ at among. absurd (cc)) (λ among. among)
