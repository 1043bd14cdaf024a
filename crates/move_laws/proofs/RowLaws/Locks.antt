-- The rows of mutexes and semaphores, where the rows of threads change, or what threads owe, or an object is made.
use Rattle.std.proofs.Common.{◌≡◌, inl, inr, ℕ, ◌<◌, ◌≤◌, List, [], ◌++◌, length, get_or, arith, refl, sym, ap, ◌∙◌, Option, None, true, false}
use Rattle.std.specs.Prelude.{drop, is_some}
use Rattle.std.proofs.lemmas.Bool.{cases_lt}
use Rattle.std.proofs.lemmas.List.{get_or_past}
use Rattle.sym_base.specs.declared.number.ObjNo.{ObjNo}
use Rattle.entry_log.specs.declared.effect.Holder.TheVariants.{Own}
use Rattle.state_rows.specs.declared.duty.Owed.{Owed}
use Rattle.state_rows.specs.declared.locks.LockRows.{LockRows}
use Rattle.state_rows.specs.declared.object.ObjectRow.{ObjectRow}
use Rattle.state_rows.specs.declared.thread.ThreadRow.{ThreadRow}
use Rattle.state_rows.specs.declared.thread.Waiting.TheVariants as waiting
use Rattle.state_rows.specs.Locks.{is_among, waiters_at}
use Rattle.machine.specs.HeldIn.{owed_by}
use Rattle.machine.specs.References.{total}
use Rattle.machine.specs.Rows.{owing, with_row, without_first}
use Rattle.machine.specs.WellFormed.{AreLocks, Awaits}
use Rattle.move_laws.proofs.Holders.ThreadRows.{row-other}
use Rattle.move_laws.proofs.Lists.Sets.{set_either}
use Rattle.move_laws.proofs.Lists.Totals.{total-append, total-drop}
use Rattle.move_laws.proofs.RowLaws.Threads.{length-with_row, row-kept}

-- other rows of as many threads, and other duties: whoever waits for an object waits for it still, and whoever owed no
-- close of an ownership owes none
pub record LeavesLocks (threads other : List (Option ThreadRow)) (owed duties : List (List Owed)) (r : LockRows) : Type 0 where
  pub long : length other ≡ length threads
  pub waits : (t o : ObjNo) → is_among t (waiters_at r o) ≡ true → Awaits threads t o → Awaits other t o
  pub owes : (t o : ObjNo) → total (owed_by (Own t) o) (get_or owed t.0 []) ≡ 0 → total (owed_by (Own t) o) (get_or duties t.0 []) ≡ 0

-- objects of which none went
abbrev pub HasThose : List (Option ObjectRow) → List (Option ObjectRow) → Type 0
HasThose objects more = (k : ℕ) → get_or more k None ≡ None → get_or objects k None ≡ None

pub locks-left : (objects count : List (Option ObjectRow)) (threads other : List (Option ThreadRow)) (mutexes : List (List ObjNo))
    (owed duties : List (List Owed)) (r : LockRows)
    → HasThose objects count → LeavesLocks threads other owed duties r → AreLocks objects threads mutexes owed r
    → AreLocks count other mutexes duties r
locks-left objects count threads other mutexes owed duties r more leaves h = record {
  owners_sized = h.owners_sized;
  counts_sized = h.counts_sized;
  waiters_sized = h.waiters_sized;
  mutexes_sized = h.mutexes_sized ∙ sym leaves.long;
  counts = h.counts;
  owned = h.owned;
  held = h.held;
  waiters = λ t o among. leaves.waits t o among (h.waiters t o among);
  paid = λ t o among. leaves.owes t o (h.paid t o among);
  owners_made = λ o none. h.owners_made o (more o.0 none);
  waiters_made = λ o none. h.waiters_made o (more o.0 none);
  counts_made = λ o none. h.counts_made o (more o.0 none);
}

-- whoever waits for an object does so still where a row changes but for what its thread waits for
pub awaits-with_row : (threads : List (Option ThreadRow)) (u : ObjNo) (f : ThreadRow → ThreadRow)
    → ((row : ThreadRow) → (f row).waiting ≡ row.waiting) → (t o : ObjNo) → Awaits threads t o
    → Awaits (with_row threads u f) t o
awaits-with_row threads u f keeps t o h =
    let kept = row-kept threads u f t.0 h.row (λ (row : ThreadRow). row.waiting ≡ waiting.Lock o)
    (λ row e. keeps row ∙ e) h.is h.waits in
    record { row = kept.0; is = kept.1; waits = kept.2 }

-- and where the row of another thread changes
pub awaits-other : (threads : List (Option ThreadRow)) (u : ObjNo) (f : ThreadRow → ThreadRow) (t o : ObjNo)
    → (u.0 ≡ t.0 → ⊥) → Awaits threads t o → Awaits (with_row threads u f) t o
awaits-other threads u f t o apart h = record { row = h.row; is = row-other threads u f t.0 apart ∙ h.is; waits = h.waits }

-- a thread that owes more, but no close of an ownership, owes none of them
pub unowned-owing : (owed : List (List Owed)) (u : ObjNo) (more : List Owed)
    → ((t o : ObjNo) → total (owed_by (Own t) o) more ≡ 0) → (t o : ObjNo)
    → total (owed_by (Own t) o) (get_or owed t.0 []) ≡ 0
    → total (owed_by (Own t) o) (get_or (owing owed u more) t.0 []) ≡ 0
unowned-owing owed u more none t o h =
    elim (set_either owed u.0 (get_or owed u.0 [] ++ more) t.0 []) as
    (λ _. total (owed_by (Own t) o) (get_or (owing owed u more) t.0 []) ≡ 0) [
      | inl at ↦
          let a = ap (total (owed_by (Own t) o)) at.1 in
          let b = total-append (owed_by (Own t) o) (get_or owed u.0 []) more in
          let c : total (owed_by (Own t) o) (get_or owed u.0 []) ≡ total (owed_by (Own t) o) (get_or owed t.0 []) =
          ap (λ (n : ℕ). total (owed_by (Own t) o) (get_or owed n [])) (sym at.0) in
          let d = none t o in omega arith
      | inr e ↦ ap (total (owed_by (Own t) o)) e ∙ h
    ]

-- so does one that doesn't owe the oldest any more
pub unowned-without_first : (owed : List (List Owed)) (u t o : ObjNo)
    → total (owed_by (Own t) o) (get_or owed t.0 []) ≡ 0
    → total (owed_by (Own t) o) (get_or (without_first owed u) t.0 []) ≡ 0
unowned-without_first owed u t o h =
    elim (set_either owed u.0 (drop 1 (get_or owed u.0 [])) t.0 []) as
    (λ _. total (owed_by (Own t) o) (get_or (without_first owed u) t.0 []) ≡ 0) [
      | inl at ↦
          let a = ap (total (owed_by (Own t) o)) at.1 in
          let b = total-drop (owed_by (Own t) o) (get_or owed u.0 []) in
          let c : total (owed_by (Own t) o) (get_or owed u.0 []) ≡ total (owed_by (Own t) o) (get_or owed t.0 []) =
          ap (λ (n : ℕ). total (owed_by (Own t) o) (get_or owed n [])) (sym at.0) in
          omega arith
      | inr e ↦ ap (total (owed_by (Own t) o)) e ∙ h
    ]

-- a change of a row but for what its thread waits for
pub leaves-with_row : (threads : List (Option ThreadRow)) (u : ObjNo) (f : ThreadRow → ThreadRow)
    (owed : List (List Owed)) (r : LockRows)
    → ((row : ThreadRow) → (f row).waiting ≡ row.waiting) → LeavesLocks threads (with_row threads u f) owed owed r
leaves-with_row threads u f owed r keeps = record {
  long = length-with_row threads u f;
  waits = λ t o _ h. awaits-with_row threads u f keeps t o h;
  owes = λ t o h. h;
}

-- any change of the row of a thread that stands among no waiters
pub leaves-nowhere : (threads : List (Option ThreadRow)) (u : ObjNo) (f : ThreadRow → ThreadRow)
    (owed : List (List Owed)) (r : LockRows)
    → ((o : ObjNo) → is_among u (waiters_at r o) ≡ false) → LeavesLocks threads (with_row threads u f) owed owed r
leaves-nowhere threads u f owed r nowhere = record {
  long = length-with_row threads u f;
  waits =
      λ t o among h. awaits-other threads u f t o
      (λ at. let same : is_among u (waiters_at r o)
      ≡ is_among t (waiters_at r o) = ap (λ (n : ℕ). is_among (record { 0 = n }) (waiters_at r o)) at in
      let none = nowhere o in cc) h;
  owes = λ t o h. h;
}

-- no change
pub leaves-none : (threads : List (Option ThreadRow)) (owed : List (List Owed)) (r : LockRows) → LeavesLocks threads threads owed owed r
leaves-none threads owed r = record { long = refl; waits = λ t o _ h. h; owes = λ t o h. h }

-- one change behind another
pub leaves-then : (threads other last : List (Option ThreadRow)) (owed duties left : List (List Owed)) (r : LockRows)
    → LeavesLocks threads other owed duties r → LeavesLocks other last duties left r
    → LeavesLocks threads last owed left r
leaves-then threads other last owed duties left r h k = record {
  long = k.long ∙ h.long;
  waits = λ t o among w. k.waits t o among (h.waits t o among w);
  owes = λ t o none. k.owes t o (h.owes t o none);
}

-- more duties, none of them a close of an ownership
pub leaves-owing : (threads : List (Option ThreadRow)) (owed : List (List Owed)) (u : ObjNo) (more : List Owed)
    (r : LockRows)
    → ((t o : ObjNo) → total (owed_by (Own t) o) more ≡ 0) → LeavesLocks threads threads owed (owing owed u more) r
leaves-owing threads owed u more r none = record { long = refl; waits = λ t o _ h. h; owes = unowned-owing owed u more none }

-- and the oldest one less
pub leaves-without_first : (threads : List (Option ThreadRow)) (owed : List (List Owed)) (u : ObjNo) (r : LockRows)
    → LeavesLocks threads threads owed (without_first owed u) r
leaves-without_first threads owed u r = record { long = refl; waits = λ t o _ h. h; owes = unowned-without_first owed u }

-- a thread is one of the threads
pub thread_inside : (threads : List (Option ThreadRow)) (k : ℕ) → is_some (get_or threads k None) ≡ true → k < length threads
thread_inside threads k there = elim (cases_lt k (length threads)) as (λ _. k < length threads) [
  | inl inside ↦ inside
  | inr past ↦ let none : is_some (get_or threads k None) ≡ false = ap is_some (get_or_past threads k None past) in absurd (cc)
]
