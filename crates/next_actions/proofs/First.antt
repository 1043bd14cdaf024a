-- The first of what a doomed thread has.
use Rattle.std.proofs.Common.{◌≡◌, ℕ, ◌+◌, true, false, List, [], ◌∷◌, ◌++◌, map, Option, Some, None, refl, ap, sym, ◌∙◌, append_assoc}
use Rattle.std.specs.Prelude.{option_map, slice_get}
use Rattle.std.specs.List.{slice_index_or}
use Rattle.sym_base.specs.declared.number.ObjNo.{ObjNo}
use Rattle.entry_log.specs.declared.effect.Holder.{Holder}
use Rattle.entry_log.specs.declared.effect.Holder.TheVariants.{InThread}
use Rattle.state_rows.specs.declared.handle_slot.HandleSlot.{HandleSlot}
use Rattle.state_rows.specs.declared.thread.ThreadRow.{ThreadRow}
use Rattle.machine.specs.declared.holding.Holding.{Holding}
use Rattle.machine.specs.declared.holding.Holding.TheVariants.{Mutex, Use, Handle, Logon}
use Rattle.machine.specs.declared.state.State.{State}
use Rattle.machine.specs.Holdings.{held_slot, held_handles, first_here, first_used, held_use, held_mutexes, held_servers, held_logons, process_handles, holdings}
use Rattle.machine.specs.LogonMoves.{logons_on}
use Rattle.machine.specs.Rows.{table_of}
use Rattle.machine.specs.Task.{dying_task, work_or}
use Rattle.machine.specs.declared.task.Task.{Task}
use Rattle.machine.specs.declared.task.Task.TheVariants.{GiveUp, Clean}
use Rattle.next_actions.specs.FirstHolding.{first_of}
use Rattle.next_actions.specs.NextActions.{has_any}

-- the handle of a used slot
abbrev handle_at : (ℕ → Holder) → ℕ × ObjNo → Holding
handle_at holder slot = Handle (holder slot.0) slot.1

slot_first : (holder : ℕ → Holder) (i : ℕ) (x : Option ObjNo) (rest : List HandleSlot)
    → slice_get (held_handles holder (i + 1) rest) 0 ≡ option_map (handle_at holder) (first_used (i + 1) rest)
    → slice_get (held_slot (holder i) x ++ held_handles holder (i + 1) rest) 0 ≡ option_map (handle_at holder) (first_here i x (first_used (i + 1) rest))
slot_first holder i None rest h = h
slot_first holder i (Some o) rest h = refl

-- the first handle of a table is that of its first used slot
pub handles_first : (holder : ℕ → Holder) (i : ℕ) (slots : List HandleSlot)
    → slice_get (held_handles holder i slots) 0
    ≡ option_map (λ (slot : ℕ × ObjNo). Handle (holder slot.0) slot.1) (first_used i slots)
handles_first holder i [] = refl
handles_first holder i (slot ∷ rest) = slot_first holder i slot.object rest (handles_first holder (i + 1) rest)

-- the first of two lists one behind the other
pub first_here_of : {A : Type 0} (xs ys : List A) (x : A) → slice_get xs 0 ≡ Some x → slice_get (xs ++ ys) 0 ≡ Some x
first_here_of [] ys x is = absurd (cc)
first_here_of (y ∷ xs) ys x is = is

pub first_behind : {A : Type 0} (xs ys : List A) → slice_get xs 0 ≡ None → slice_get (xs ++ ys) 0 ≡ slice_get ys 0
first_behind [] ys none = refl
first_behind (y ∷ xs) ys none = absurd (cc)

-- the first of all, by its parts
first_of_parts : (mutexes : List ObjNo) (work : List Holding) (used : Option ObjNo) (handles : List Holding) (logons : List (ObjNo × ℕ))
    → first_of (slice_get mutexes 0) (slice_get work 0) used (slice_get handles 0) (slice_get logons 0)
    ≡ slice_get (map (λ o. Mutex o) mutexes ++ work ++ held_use used ++ handles ++ map (λ (logon : ObjNo × ℕ). Logon logon.0 logon.1) logons) 0
first_of_parts [] [] None [] [] = refl
first_of_parts _ _ _ _ _ = refl

first_of_all : (S : State) (t : ObjNo) (row : ThreadRow)
    → first_of (slice_get (slice_index_or S.synchronization.mutexes t.0 []) 0) (slice_get (held_servers S t) 0) row.uses
    (slice_get (held_handles (InThread t) 0 (table_of S t) ++ process_handles S t row.process) 0)
    (slice_get (logons_on S.synchronization.logons t) 0)
    ≡ slice_get (holdings S t row) 0
first_of_all S t row =
    let own = held_handles (InThread t) 0 (table_of S t) in
    let shared = process_handles S t row.process in
    first_of_parts (slice_index_or S.synchronization.mutexes t.0 []) (held_servers S t) row.uses (own ++ shared) (logons_on S.synchronization.logons t)
    ∙ ap (λ (l : List Holding). slice_get (l ++ held_logons S t) 0) (sym (append_assoc (held_mutexes S t ++ held_servers S t ++ held_use row.uses) own shared))

-- so it is a mutex, or else of its closing servers, or else what its call uses, or else a handle, or else a logon
by_parts : (S : State) (t : ObjNo) (row : ThreadRow) (mutex : Option ObjNo) (work : Option Holding)
    (used : Option ObjNo) (handle : Option Holding) (logon : Option (ObjNo × ℕ))
    → slice_get (slice_index_or S.synchronization.mutexes t.0 []) 0 ≡ mutex → slice_get (held_servers S t) 0 ≡ work
    → row.uses ≡ used → slice_get (held_handles (InThread t) 0 (table_of S t) ++ process_handles S t row.process) 0
    ≡ handle → slice_get (logons_on S.synchronization.logons t) 0 ≡ logon
    → slice_get (holdings S t row) 0 ≡ first_of mutex work used handle logon
by_parts S t row mutex work used handle logon m w u h l = rw (sym m, sym w, sym u, sym h, sym l) (sym (first_of_all S t row))

pub of_mutex : (S : State) (t : ObjNo) (row : ThreadRow) (o : ObjNo)
    → slice_get (slice_index_or S.synchronization.mutexes t.0 []) 0 ≡ Some o
    → slice_get (holdings S t row) 0 ≡ Some (Mutex o)
of_mutex S t row o m = by_parts S t row (Some o) _ _ _ _ m refl refl refl refl

pub of_work : (S : State) (t : ObjNo) (row : ThreadRow) (what : Holding)
    → slice_get (slice_index_or S.synchronization.mutexes t.0 []) 0 ≡ None → slice_get (held_servers S t) 0 ≡ Some what
    → slice_get (holdings S t row) 0 ≡ Some what
of_work S t row what m w = by_parts S t row None (Some what) _ _ _ m w refl refl refl

pub of_use : (S : State) (t : ObjNo) (row : ThreadRow) (o : ObjNo)
    → slice_get (slice_index_or S.synchronization.mutexes t.0 []) 0 ≡ None → slice_get (held_servers S t) 0 ≡ None
    → row.uses ≡ Some o → slice_get (holdings S t row) 0 ≡ Some (Use o)
of_use S t row o m w u = by_parts S t row None None (Some o) _ _ m w u refl refl

pub of_handle : (S : State) (t : ObjNo) (row : ThreadRow) (handle : Holding)
    → slice_get (slice_index_or S.synchronization.mutexes t.0 []) 0 ≡ None → slice_get (held_servers S t) 0 ≡ None
    → row.uses ≡ None
    → slice_get (held_handles (InThread t) 0 (table_of S t) ++ process_handles S t row.process) 0 ≡ Some handle
    → slice_get (holdings S t row) 0 ≡ Some handle
of_handle S t row handle m w u h = by_parts S t row None None None (Some handle) _ m w u h refl

pub of_logon : (S : State) (t : ObjNo) (row : ThreadRow) (logon : ObjNo × ℕ)
    → slice_get (slice_index_or S.synchronization.mutexes t.0 []) 0 ≡ None → slice_get (held_servers S t) 0 ≡ None
    → row.uses ≡ None
    → slice_get (held_handles (InThread t) 0 (table_of S t) ++ process_handles S t row.process) 0 ≡ None
    → slice_get (logons_on S.synchronization.logons t) 0 ≡ Some logon
    → slice_get (holdings S t row) 0 ≡ Some (Logon logon.0 logon.1)
of_logon S t row logon m w u h l = by_parts S t row None None None None (Some logon) m w u h l

pub of_none : (S : State) (t : ObjNo) (row : ThreadRow)
    → slice_get (slice_index_or S.synchronization.mutexes t.0 []) 0 ≡ None → slice_get (held_servers S t) 0 ≡ None
    → row.uses ≡ None
    → slice_get (held_handles (InThread t) 0 (table_of S t) ++ process_handles S t row.process) 0 ≡ None
    → slice_get (logons_on S.synchronization.logons t) 0 ≡ None → slice_get (holdings S t row) 0 ≡ None
of_none S t row m w u h l = by_parts S t row None None None None None m w u h l

-- the work of a live thread's closing servers, where there is any
pub work_first : (work : List Holding) (what : Holding) (own : Task) → slice_get work 0 ≡ Some what → work_or work own ≡ GiveUp what
work_first [] what own is = absurd (cc)
work_first (x ∷ work) what own is = cc

pub work_none : (work : List Holding) (own : Task) → slice_get work 0 ≡ None → work_or work own ≡ own
work_none [] own none = refl
work_none (x ∷ work) own none = absurd (cc)

-- the task of a doomed thread, by the first of what it has
pub dying_first : (has : List Holding) (what : Holding) → slice_get has 0 ≡ Some what → dying_task has ≡ GiveUp what
dying_first [] what is = absurd (cc)
dying_first (x ∷ has) what is = cc

pub dying_last : (has : List Holding) → slice_get has 0 ≡ None → dying_task has ≡ Clean
dying_last [] none = refl
dying_last (x ∷ has) none = absurd (cc)

-- and whether it has anything
pub some_first : (has : List Holding) (what : Holding) → slice_get has 0 ≡ Some what → has_any has ≡ true
some_first [] what is = absurd (cc)
some_first (x ∷ has) what is = refl

pub none_first : (has : List Holding) → slice_get has 0 ≡ None → has_any has ≡ false
none_first [] none = refl
none_first (x ∷ has) none = absurd (cc)
