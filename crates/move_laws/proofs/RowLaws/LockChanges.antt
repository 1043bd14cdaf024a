-- The rows of mutexes and semaphores, where those of one object change.
use Rattle.std.proofs.Common.{◌≡◌, ◌≢◌, inl, inr, ℕ, ◌<◌, ◌≤◌, List, [], length, get_or, set, arith, refl, sym, ap, subst, ◌∙◌, Option, Some, None, true, false}
use Rattle.std.specs.Prelude.{is_some}
use Rattle.std.proofs.lemmas.Bool.{cases_eq}
use Rattle.std.proofs.lemmas.List.{length-set, get_or-set_same, get_or-set_other}
use Rattle.sym_base.specs.declared.limits.TheConstants.Limits.{OBJECTS}
use Rattle.sym_base.specs.declared.number.ObjNo.{ObjNo}
use Rattle.entry_log.specs.declared.effect.Holder.TheVariants.{Own}
use Rattle.state_rows.specs.declared.duty.Owed.{Owed}
use Rattle.state_rows.specs.declared.locks.LockRows.{LockRows}
use Rattle.state_rows.specs.declared.locks.Owner.{Owner}
use Rattle.state_rows.specs.declared.object.ObjectRow.{ObjectRow}
use Rattle.state_rows.specs.declared.thread.ThreadRow.{ThreadRow}
use Rattle.state_rows.specs.Locks.{count_at, is_among, owner_at, waiters_at}
use Rattle.state_rows.proofs.SoundChanges.{set_item}
use Rattle.machine.specs.HeldIn.{owed_by}
use Rattle.machine.specs.References.{total}
use Rattle.machine.specs.WellFormed.{AreLocks, Awaits, IsOwnerOf, times_held}
use Rattle.move_laws.proofs.Lives.Bits.{there_inside}
use Rattle.move_laws.proofs.References.Same.{same_object}

-- the parts that may change: the rows, the mutexes that threads hold, and what threads owe
pub record LockParts : Type 0 where
  pub rows : LockRows
  pub mutexes : List (List ObjNo)
  pub owed : List (List Owed)

abbrev pub AreLockParts : List (Option ObjectRow) → List (Option ThreadRow) → LockParts → Type 0
AreLockParts objects threads p = AreLocks objects threads p.mutexes p.owed p.rows

-- whoever stands among an object's waiters
pub record MayStand (threads : List (Option ThreadRow)) (owed : List (List Owed)) (t o : ObjNo) : Type 0 where
  pub waits : Awaits threads t o
  pub paid : total (owed_by (Own t) o) (get_or owed t.0 []) ≡ 0

-- a change of what is kept of one object
pub record ChangesOne (objects : List (Option ObjectRow)) (threads : List (Option ThreadRow)) (p q : LockParts) (o : ObjNo) : Type 0 where
  pub owners_sized : length q.rows.owners ≡ length p.rows.owners
  pub counts_sized : length q.rows.counts ≡ length p.rows.counts
  pub waiters_sized : length q.rows.waiters ≡ length p.rows.waiters
  pub mutexes_sized : length q.mutexes ≡ length p.mutexes
  pub made : is_some (get_or objects o.0 None) ≡ true
  pub counts : (x : ObjNo) → count_at q.rows x ≤ 2147483647
  pub owners : (x : ObjNo) → x.0 ≢ o.0 → owner_at q.rows x ≡ owner_at p.rows x
  pub queues : (x : ObjNo) → x.0 ≢ o.0 → waiters_at q.rows x ≡ waiters_at p.rows x
  pub counted : (x : ObjNo) → x.0 ≢ o.0 → count_at q.rows x ≡ count_at p.rows x
  pub holds : (t x : ObjNo) → x.0 ≢ o.0 → times_held q.mutexes t x ≡ times_held p.mutexes t x
  pub owes : (t x : ObjNo) → x.0 ≢ o.0 → total (owed_by (Own t) x) (get_or q.owed t.0 []) ≡ total (owed_by (Own t) x) (get_or p.owed t.0 [])
  pub owned : (owner : Owner) → owner_at q.rows o ≡ Some owner → times_held q.mutexes owner.thread o ≡ 1
  pub held : (t : ObjNo) → 0 < times_held q.mutexes t o → IsOwnerOf q.rows t o
  pub waiters : (t : ObjNo) → is_among t (waiters_at q.rows o) ≡ true → MayStand threads q.owed t o

-- what holds of the object that changes, and of the others, holds of each
either : (P : ObjNo → Type 0) (o x : ObjNo) → P o → (x.0 ≢ o.0 → P x) → P x
either P o x here there = elim (cases_eq x.0 o.0) as (λ _. P x) [
  | inl at ↦ subst P (sym (same_object x o at)) here
  | inr apart ↦ there apart
]

-- a number without an object is another than one with one
pub apart_there : (objects : List (Option ObjectRow)) (o x : ObjNo) → is_some (get_or objects o.0 None) ≡ true → get_or objects x.0 None ≡ None → x.0 ≢ o.0
apart_there objects o x there none at =
    let a : is_some (get_or objects x.0 None) ≡ true = ap (λ (n : ℕ). is_some (get_or objects n None)) at ∙ there in
    let b : is_some (get_or objects x.0 None) ≡ false = ap is_some none in cc

pub locks-one : (objects : List (Option ObjectRow)) (threads : List (Option ThreadRow)) (p q : LockParts) (o : ObjNo)
    → ChangesOne objects threads p q o → AreLockParts objects threads p → AreLockParts objects threads q
locks-one objects threads p q o c h = record {
  owners_sized = c.owners_sized ∙ h.owners_sized;
  counts_sized = c.counts_sized ∙ h.counts_sized;
  waiters_sized = c.waiters_sized ∙ h.waiters_sized;
  mutexes_sized = c.mutexes_sized ∙ h.mutexes_sized;
  counts = c.counts;
  owned = λ x. either (λ (x : ObjNo). (owner : Owner) → owner_at q.rows x ≡ Some owner → times_held q.mutexes owner.thread x ≡ 1) o x c.owned
      (λ apart owner is. c.holds owner.thread x apart ∙ h.owned x owner (sym (c.owners x apart) ∙ is));
  held = λ t x. either (λ (x : ObjNo). 0 < times_held q.mutexes t x → IsOwnerOf q.rows t x) o x (c.held t)
      (λ apart some. let same = c.holds t x apart in let was = h.held t x (omega arith) in
      record { owner = was.owner; is = c.owners x apart ∙ was.is; thread = was.thread });
  waiters = λ t x. either (λ (x : ObjNo). is_among t (waiters_at q.rows x) ≡ true → Awaits threads t x) o x (λ among. (c.waiters t among).waits)
      (λ apart among. h.waiters t x (ap (is_among t) (sym (c.queues x apart)) ∙ among));
  paid =
      λ t x. either (λ (x : ObjNo). is_among t (waiters_at q.rows x) ≡ true
      → total (owed_by (Own t) x) (get_or q.owed t.0 []) ≡ 0) o x (λ among. (c.waiters t among).paid)
      (λ apart among. c.owes t x apart ∙ h.paid t x (ap (is_among t) (sym (c.queues x apart)) ∙ among));
  owners_made = λ x none. c.owners x (apart_there objects o x c.made none) ∙ h.owners_made x none;
  waiters_made = λ x none. c.queues x (apart_there objects o x c.made none) ∙ h.waiters_made x none;
  counts_made = λ x none. c.counted x (apart_there objects o x c.made none) ∙ h.counts_made x none;
}

-- the object's owner and waiters change, and with them what threads hold and owe
pub record Passes (objects : List (Option ObjectRow)) (threads : List (Option ThreadRow)) (p : LockParts) (o : ObjNo) (owner : Option Owner)
    (queue : List ObjNo) (mutexes : List (List ObjNo)) (owed : List (List Owed)) : Type 0 where
  pub made : is_some (get_or objects o.0 None) ≡ true
  pub few : length objects ≤ OBJECTS
  pub long : length mutexes ≡ length p.mutexes
  pub holds : (t x : ObjNo) → x.0 ≢ o.0 → times_held mutexes t x ≡ times_held p.mutexes t x
  pub owes : (t x : ObjNo) → x.0 ≢ o.0 → total (owed_by (Own t) x) (get_or owed t.0 []) ≡ total (owed_by (Own t) x) (get_or p.owed t.0 [])
  pub owned : (w : Owner) → owner ≡ Some w → times_held mutexes w.thread o ≡ 1
  pub held : (t : ObjNo) → 0 < times_held mutexes t o → (w : Owner) × (owner ≡ Some w) × (w.thread.0 ≡ t.0)
  pub waiters : (t : ObjNo) → is_among t queue ≡ true → MayStand threads owed t o

pub locks-passed : (objects : List (Option ObjectRow)) (threads : List (Option ThreadRow)) (p : LockParts) (o : ObjNo) (owner : Option Owner)
    (queue : List ObjNo) (mutexes : List (List ObjNo)) (owed : List (List Owed))
    → Passes objects threads p o owner queue mutexes owed → AreLockParts objects threads p
    → AreLocks objects threads mutexes owed (record p.rows { owners = set p.rows.owners o.0 owner; waiters = set p.rows.waiters o.0 queue })
locks-passed objects threads p o owner queue mutexes owed c h = locks-one objects threads p (record { rows = new; mutexes = mutexes; owed = owed }) o (record {
  owners_sized = length-set p.rows.owners o.0 owner;
  counts_sized = refl;
  waiters_sized = length-set p.rows.waiters o.0 queue;
  mutexes_sized = c.long;
  made = c.made;
  counts = h.counts;
  owners = λ x apart. get_or-set_other p.rows.owners o.0 x.0 owner None apart;
  queues = λ x apart. get_or-set_other p.rows.waiters o.0 x.0 queue [] apart;
  counted = λ x apart. refl;
  holds = c.holds;
  owes = c.owes;
  owned = λ w is. c.owned w (sym owner_is ∙ is);
  held = λ t some. let w = c.held t some in record { owner = w.0; is = owner_is ∙ w.1; thread = w.2 };
  waiters = λ t among. c.waiters t (ap (is_among t) (sym queue_is) ∙ among);
}) h
  where
    new : LockRows
    new = record p.rows { owners = set p.rows.owners o.0 owner; waiters = set p.rows.waiters o.0 queue }

    owner_is : owner_at new o ≡ owner
    owner_is = let long = h.owners_sized in let inside = there_inside objects o.0 c.made in let few = c.few in get_or-set_same p.rows.owners o.0 owner None (omega arith)

    queue_is : waiters_at new o ≡ queue
    queue_is = let long = h.waiters_sized in let inside = there_inside objects o.0 c.made in let few = c.few in get_or-set_same p.rows.waiters o.0 queue [] (omega arith)

-- the object's count and waiters change
pub locks-counted : (objects : List (Option ObjectRow)) (threads : List (Option ThreadRow)) (p : LockParts) (o : ObjNo) (count : ℕ)
    (queue : List ObjNo)
    → is_some (get_or objects o.0 None) ≡ true → length objects ≤ OBJECTS → count ≤ 2147483647
    → ((t : ObjNo) → is_among t queue ≡ true → MayStand threads p.owed t o) → AreLockParts objects threads p
    → AreLocks objects threads p.mutexes p.owed (record p.rows { counts = set p.rows.counts o.0 count; waiters = set p.rows.waiters o.0 queue })
locks-counted objects threads p o count queue made few small stands h =
    locks-one objects threads p (record { rows = new; mutexes = p.mutexes; owed = p.owed }) o (record {
      owners_sized = refl;
      counts_sized = length-set p.rows.counts o.0 count;
      waiters_sized = length-set p.rows.waiters o.0 queue;
      mutexes_sized = refl;
      made = made;
      counts = λ x. set_item (λ (n : ℕ). n ≤ 2147483647) p.rows.counts o.0 x.0 count 0 (λ _. small) (h.counts x);
      owners = λ x apart. refl;
      queues = λ x apart. get_or-set_other p.rows.waiters o.0 x.0 queue [] apart;
      counted = λ x apart. get_or-set_other p.rows.counts o.0 x.0 count 0 apart;
      holds = λ t x apart. refl;
      owes = λ t x apart. refl;
      owned = h.owned o;
      held = λ t some. let was = h.held t o some in record { owner = was.owner; is = was.is; thread = was.thread };
      waiters = λ t among. stands t (ap (is_among t) (sym queue_is) ∙ among);
    }) h
  where
    new : LockRows
    new = record p.rows { counts = set p.rows.counts o.0 count; waiters = set p.rows.waiters o.0 queue }

    queue_is : waiters_at new o ≡ queue
    queue_is = let long = h.waiters_sized in let inside = there_inside objects o.0 made in get_or-set_same p.rows.waiters o.0 queue [] (omega arith)
