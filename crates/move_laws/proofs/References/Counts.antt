-- What changing a row does to sums over tables, threads and duties.
use Rattle.std.proofs.Common.{◌≡◌, ℕ, ◌+◌, ◌<◌, List, [], ◌∷◌, ◌++◌, length, get_or, arith, refl, sym, ap, ◌∙◌, inl, inr, suc, zero, Option, Some, None}
use Rattle.std.specs.Prelude.{slice_set, option_map, is_some, drop}
use Rattle.std.proofs.lemmas.Bool.{cases_eq}
use Rattle.std.proofs.lemmas.List.{get_or-set_other}
use Rattle.sym_base.specs.declared.number.ObjNo.{ObjNo}
use Rattle.state_rows.specs.declared.duty.Owed.{Owed}
use Rattle.state_rows.specs.declared.handle_slot.HandleSlot.{HandleSlot}
use Rattle.state_rows.specs.declared.thread.ThreadRow.{ThreadRow}
use Rattle.machine.specs.Rows.{with_row, owing}
use Rattle.machine.specs.Handles.{with_slot}
use Rattle.state_rows.specs.HandleSlots.{fresh_slot, slot_at}
use Rattle.machine.specs.Rows.{without_first}
use Rattle.machine.specs.References.{total, slot_names, thread_names, kernel_holds, stage_holds}
use Rattle.move_laws.proofs.Lists.Totals.{total-set, total-append, total-with, get-with}

-- a slot, made from the old one
pub count-with_slot : (tables : List (List HandleSlot)) (owner : ObjNo) (i : ℕ) (f : HandleSlot → HandleSlot)
    (o : ObjNo)
    → owner.0 < length tables → i < length (get_or tables owner.0 [])
    → total (total (slot_names o)) (with_slot tables owner i f) + slot_names o (slot_at (get_or tables owner.0 []) i)
    ≡ total (total (slot_names o)) tables + slot_names o (f (slot_at (get_or tables owner.0 []) i))
count-with_slot tables owner i f o h k =
    let table = get_or tables owner.0 [] in
    let inner = total-set (slot_names o) table i (f (slot_at table i)) fresh_slot k in
    let outer = total-set (total (slot_names o)) tables owner.0 (slice_set table i (f (slot_at table i))) [] h in
    omega arith

-- a thread's row, made from the old one
pub count-with_row : (threads : List (Option ThreadRow)) (t : ObjNo) (f : ThreadRow → ThreadRow) (o : ObjNo)
    → total (thread_names o) (with_row threads t f) + thread_names o (get_or threads t.0 None)
    ≡ total (thread_names o) threads + thread_names o (option_map f (get_or threads t.0 None))
count-with_row threads t f o = total-with (thread_names o) (option_map f) None threads t.0 refl

is_some-map : {A : Type 0} (f : A → A) (x : Option A) → is_some (option_map f x) ≡ is_some x
is_some-map f None = refl
is_some-map f (Some x) = refl

-- a row made from the old one leaves which rows there are
pub is_some-with : {A : Type 0} (rows : List (Option A)) (i : ℕ) (f : A → A) (j : ℕ)
    → is_some (get_or (slice_set rows i (option_map f (get_or rows i None))) j None) ≡ is_some (get_or rows j None)
is_some-with [] i f j = refl
is_some-with (x ∷ xs) zero f zero = is_some-map f x
is_some-with (x ∷ xs) zero f (suc j) = refl
is_some-with (x ∷ xs) (suc i) f zero = refl
is_some-with (x ∷ xs) (suc i) f (suc j) = is_some-with xs i f j

-- so it does with threads
pub is_some-with_row : (threads : List (Option ThreadRow)) (t : ObjNo) (f : ThreadRow → ThreadRow) (u : ObjNo)
    → is_some (get_or (with_row threads t f) u.0 None) ≡ is_some (get_or threads u.0 None)
is_some-with_row threads t f u = is_some-with threads t.0 f u.0

-- a change of a row that leaves whether the kernel holds the thread leaves that of all
pub holds-map : (f : ThreadRow → ThreadRow) (x : Option ThreadRow)
    → ((row : ThreadRow) → x ≡ Some row → stage_holds (f row).stage ≡ stage_holds row.stage)
    → kernel_holds (option_map f x) ≡ kernel_holds x
holds-map f None keeps = refl
holds-map f (Some row) keeps = keeps row refl

pub kernel-with_row : (threads : List (Option ThreadRow)) (t : ObjNo) (f : ThreadRow → ThreadRow) (o : ObjNo)
    → ((row : ThreadRow) → get_or threads t.0 None ≡ Some row → stage_holds (f row).stage ≡ stage_holds row.stage)
    → kernel_holds (get_or (with_row threads t f) o.0 None) ≡ kernel_holds (get_or threads o.0 None)
kernel-with_row threads t f o keeps =
    elim (cases_eq t.0 o.0) as (λ _. kernel_holds (get_or (with_row threads t f) o.0 None)
    ≡ kernel_holds (get_or threads o.0 None)) [
      | inl at ↦
          let here = ap (λ (n : ℕ). get_or (with_row threads t f) n None) (sym at) ∙ get-with (option_map f) None threads t.0 refl in
          ap kernel_holds here ∙ (holds-map f (get_or threads t.0 None) keeps ∙ ap (λ (n : ℕ). kernel_holds (get_or threads n None)) at)
      | inr apart ↦ ap kernel_holds (get_or-set_other threads t.0 o.0 (option_map f (get_or threads t.0 None)) None (λ e. apart (sym e)))
    ]

-- duties more
pub total-owing : (f : Owed → ℕ) (owed : List (List Owed)) (t : ObjNo) (more : List Owed) → t.0 < length owed
    → total (total f) (owing owed t more) ≡ total (total f) owed + total f more
total-owing f owed t more h =
    let moved = total-set (total f) owed t.0 (get_or owed t.0 [] ++ more) [] h in
    let both = total-append f (get_or owed t.0 []) more in omega arith

-- and the oldest duty less
pub total-paying : (f : Owed → ℕ) (owed : List (List Owed)) (t : ObjNo) (what : Owed) (rest : List Owed)
    → t.0 < length owed → get_or owed t.0 [] ≡ what ∷ rest
    → total (total f) (without_first owed t) + f what ≡ total (total f) owed
total-paying f owed t what rest h e =
    let moved = total-set (total f) owed t.0 (drop 1 (get_or owed t.0 [])) [] h in
    let was : total f (get_or owed t.0 []) ≡ f what + total f rest = ap (total f) e in
    let now : total f (drop 1 (get_or owed t.0 [])) ≡ total f rest = ap (λ (l : List Owed). total f (drop 1 l)) e in
    omega arith
