-- What changing a thread's row does to who holds what.
use Rattle.std.proofs.Common.{◌≡◌, inl, inr, ℕ, ◌+◌, List, get_or, arith, refl, sym, ap, ◌∙◌, Option, None, Bool, Some}
use Rattle.std.specs.Prelude.{option_map, not, ◌==◌, if◌then◌else◌, []}
use Rattle.std.proofs.lemmas.List.{get_or-set_other}
use Rattle.std.proofs.lemmas.Bool.{cases_eq, eq-eqb}
use Rattle.sym_base.specs.declared.number.ObjNo.{ObjNo}
use Rattle.entry_log.specs.declared.effect.Holder.{Holder}
use Rattle.entry_log.specs.declared.effect.Holder.TheVariants.{InProcess, InThread, Temp, Own, Link, Message, Kernel}
use Rattle.state_rows.specs.declared.handle_slot.HandleSlot.{HandleSlot}
use Rattle.state_rows.specs.declared.thread.ThreadRow.{ThreadRow}
use Rattle.machine.specs.Rows.{with_row}
use Rattle.state_rows.specs.HandleSlots.{slot_at}
use Rattle.machine.specs.Holding.{is_holder, link_names}
use Rattle.machine.specs.References.{kernel_holds, stage_holds}
use Rattle.machine.specs.HeldIn.{own_slot, use_names, rows_hold}
use Rattle.move_laws.proofs.Lists.Totals.{get-with}
use Rattle.move_laws.proofs.References.Counts.{holds-map, is_some-with_row}
use Rattle.move_laws.proofs.References.Same.{if_is, if_not, eqb_apart}

-- a row made from the old one stands where the old one stood
pub row-here : (threads : List (Option ThreadRow)) (t : ObjNo) (f : ThreadRow → ThreadRow) (k : ℕ) → t.0 ≡ k
    → get_or (with_row threads t f) k None ≡ option_map f (get_or threads t.0 None)
row-here threads t f k at = ap (λ (n : ℕ). get_or (with_row threads t f) n None) (sym at) ∙ get-with (option_map f) None threads t.0 refl

pub row-other : (threads : List (Option ThreadRow)) (t : ObjNo) (f : ThreadRow → ThreadRow) (k : ℕ) → (t.0 ≡ k → ⊥)
    → get_or (with_row threads t f) k None ≡ get_or threads k None
row-other threads t f k apart = get_or-set_other threads t.0 k (option_map f (get_or threads t.0 None)) None (λ e. apart (sym e))

-- a number of a row
of_row : (q : Option ThreadRow → ℕ) (threads : List (Option ThreadRow)) (t : ObjNo) (f : ThreadRow → ThreadRow)
    (u : ObjNo)
    → q (get_or (with_row threads t f) u.0 None) + (if t.0 == u.0 then q (get_or threads t.0 None) else 0)
    ≡ q (get_or threads u.0 None) + (if t.0 == u.0 then q (option_map f (get_or threads t.0 None)) else 0)
of_row q threads t f u =
    let old = get_or threads t.0 None in
    let new = option_map f old in
    elim (cases_eq t.0 u.0) as (λ _. q (get_or (with_row threads t f) u.0 None) + (if t.0 == u.0 then q old else 0)
    ≡ q (get_or threads u.0 None) + (if t.0 == u.0 then q new else 0)) [
      | inl at ↦
          let a = if_is (t.0 == u.0) (q old) (eq-eqb t.0 u.0 at) in
          let b = if_is (t.0 == u.0) (q new) (eq-eqb t.0 u.0 at) in
          let c = ap q (row-here threads t f u.0 at) in
          let d : q (get_or threads u.0 None) ≡ q old = ap (λ (n : ℕ). q (get_or threads n None)) (sym at) in omega arith
      | inr apart ↦
          let a = if_not (t.0 == u.0) (q old) (eqb_apart t.0 u.0 apart) in
          let b = if_not (t.0 == u.0) (q new) (eqb_apart t.0 u.0 apart) in
          let c = ap q (row-other threads t f u.0 apart) in omega arith
    ]

-- whether the kernel holds a thread
pub kernel-changed : (threads : List (Option ThreadRow)) (t : ObjNo) (f : ThreadRow → ThreadRow) (u : ObjNo)
    → kernel_holds (get_or (with_row threads t f) u.0 None) +
    (if t.0 == u.0 then kernel_holds (get_or threads t.0 None) else 0)
    ≡ kernel_holds (get_or threads u.0 None) +
    (if t.0 == u.0 then kernel_holds (option_map f (get_or threads t.0 None)) else 0)
kernel-changed threads t f u = of_row kernel_holds threads t f u

-- the references of a thread's row: what it uses, and its link
abbrev pub row_holds : ObjNo → Option ThreadRow → Holder → ObjNo → ℕ
row_holds t row g x = (if is_holder (Temp t) g then use_names x row else 0) + (if is_holder (Link t) g then link_names x row else 0)

-- that the kernel holds the thread
abbrev pub row_kept : ObjNo → Option ThreadRow → Holder → ObjNo → ℕ
row_kept t row Kernel x = if t.0 == x.0 then kernel_holds row else 0
row_kept t row _ x = 0

-- any change of a row
pub rows-changed : (tables : List (List HandleSlot)) (threads : List (Option ThreadRow)) (mutexes : List (List ObjNo))
    (t : ObjNo) (f : ThreadRow → ThreadRow) (g : Holder) (x : ObjNo)
    → rows_hold tables (with_row threads t f) mutexes g x +
    (row_holds t (get_or threads t.0 None) g x + row_kept t (get_or threads t.0 None) g x)
    ≡ rows_hold tables threads mutexes g x +
    (row_holds t (option_map f (get_or threads t.0 None)) g x + row_kept t (option_map f (get_or threads t.0 None)) g x)
rows-changed tables threads mutexes t f (InProcess p i) x =
    let a = ap (λ (s : Bool). own_slot s x (slot_at (get_or tables p.0 []) i)) (is_some-with_row threads t f p) in
    omega arith
rows-changed tables threads mutexes t f (InThread p i) x =
    let a = ap (λ (s : Bool). own_slot (not s) x (slot_at (get_or tables p.0 []) i)) (is_some-with_row threads t f p) in
    omega arith
rows-changed tables threads mutexes t f (Temp u) x = let a = of_row (use_names x) threads t f u in omega arith
rows-changed tables threads mutexes t f (Link u) x = let a = of_row (link_names x) threads t f u in omega arith
rows-changed tables threads mutexes t f Kernel x = let a = of_row kernel_holds threads t f x in omega arith
rows-changed tables threads mutexes t f (Own u) x = refl
rows-changed tables threads mutexes t f (Message m) x = refl

kept_same : (t : ObjNo) (f : ThreadRow → ThreadRow) (old : Option ThreadRow) (g : Holder) (x : ObjNo)
    → kernel_holds (option_map f old) ≡ kernel_holds old → row_kept t (option_map f old) g x ≡ row_kept t old g x
kept_same t f old Kernel x same = ap (λ (n : ℕ). if t.0 == x.0 then n else 0) same
kept_same t f old _ x same = refl

-- one that leaves whether the kernel holds the thread
pub rows-with_row : (tables : List (List HandleSlot)) (threads : List (Option ThreadRow)) (mutexes : List (List ObjNo))
    (t : ObjNo) (f : ThreadRow → ThreadRow) (g : Holder) (x : ObjNo)
    → ((row : ThreadRow) → get_or threads t.0 None ≡ Some row → stage_holds (f row).stage ≡ stage_holds row.stage)
    → rows_hold tables (with_row threads t f) mutexes g x + row_holds t (get_or threads t.0 None) g x
    ≡ rows_hold tables threads mutexes g x + row_holds t (option_map f (get_or threads t.0 None)) g x
rows-with_row tables threads mutexes t f g x keeps =
    let all = rows-changed tables threads mutexes t f g x in
    let same = kept_same t f (get_or threads t.0 None) g x (holds-map f (get_or threads t.0 None) keeps) in omega arith
