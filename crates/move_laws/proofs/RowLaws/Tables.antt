-- Handle tables, where a slot changes; the least free slot, and the slot that a handle names.
use Rattle.std.proofs.Common.{◌≡◌, ◌≢◌, inl, inr, ℕ, suc, zero, ◌+◌, ◌<◌, ◌≤◌, List, [], ◌∷◌, length, get_or, arith, add-one, Bool, true, false, refl, sym, subst, ◌∙◌, Option, Some, None}
use Rattle.std.specs.Prelude.{slice_set, ◌==◌, is_none, if◌then◌else◌}
use Rattle.std.proofs.lemmas.Bool.{eq-eqb, cases_eq}
use Rattle.std.proofs.lemmas.List.{length-set, get_or-set_same, get_or-set_other}
use Rattle.sym_base.specs.declared.number.ObjNo.{ObjNo}
use Rattle.state_rows.specs.declared.handle_slot.HandleSlot.{HandleSlot}
use Rattle.state_rows.specs.HandleNumbers.{handle_number, index_of}
use Rattle.state_rows.specs.HandleSlots.{free_index, is_full, object_of, slot_at, fresh_slot}
use Rattle.machine.specs.Handles.{with_slot, taken_slot, freed_slot}
use Rattle.state_rows.specs.HandleSlots.{IsTable}
use Rattle.machine.specs.WellFormed.{AreTables}
use Rattle.move_laws.proofs.Lists.Sets.{set_keeps}

-- what holds of each slot of a table: its instance is small, and isn't 0 where a handle stands
pub record IsSlot (slot : HandleSlot) : Type 0 where
  pub few : slot.instance ≤ 16383
  pub counted : (o : ObjNo) → slot.object ≡ Some o → 1 ≤ slot.instance

-- a change of a slot that keeps it
abbrev pub KeepsSlot : (HandleSlot → HandleSlot) → Type 0
KeepsSlot f = (slot : HandleSlot) → IsSlot slot → IsSlot (f slot)

table-with_slot : (table : List HandleSlot) (i : ℕ) (f : HandleSlot → HandleSlot) → KeepsSlot f → IsTable table
    → IsTable (slice_set table i (f (slot_at table i)))
table-with_slot table i f keeps h = record {
  size = length-set table i (f (slot_at table i)) ∙ h.size;
  instances = λ j. (each j).few;
  counted = λ j. (each j).counted;
}
  where
    is_slot : (j : ℕ) → IsSlot (slot_at table j)
    is_slot j = record { few = h.instances j; counted = h.counted j }

    each : (j : ℕ) → IsSlot (slot_at (slice_set table i (f (slot_at table i))) j)
    each = set_keeps IsSlot table i (f (slot_at table i)) fresh_slot (keeps (slot_at table i) (is_slot i)) is_slot

pub length-with_slot : (tables : List (List HandleSlot)) (owner : ObjNo) (i : ℕ) (f : HandleSlot → HandleSlot)
    → length (with_slot tables owner i f) ≡ length tables
length-with_slot tables owner i f = length-set tables owner.0 (slice_set (get_or tables owner.0 []) i (f (slot_at (get_or tables owner.0 []) i)))

pub tables-with_slot : (tables : List (List HandleSlot)) (owner : ObjNo) (i : ℕ) (f : HandleSlot → HandleSlot)
    → KeepsSlot f → AreTables tables → AreTables (with_slot tables owner i f)
tables-with_slot tables owner i f keeps h k inside =
    let table = slice_set (get_or tables owner.0 []) i (f (slot_at (get_or tables owner.0 []) i)) in
    let long = length-with_slot tables owner i f in
    elim (cases_eq owner.0 k) as (λ _. IsTable (get_or (slice_set tables owner.0 table) k [])) [
      | inl at ↦
          let here : owner.0 < length tables = omega arith in
          subst (λ (n : ℕ). IsTable (get_or (slice_set tables owner.0 table) n [])) at
          (subst IsTable (sym (get_or-set_same tables owner.0 table [] here))
          (table-with_slot (get_or tables owner.0 []) i f keeps (h owner.0 here)))
      | inr apart ↦ subst IsTable (sym (get_or-set_other tables owner.0 k table [] (λ e. apart (sym e)))) (h k (omega arith))
    ]

next_instance_few : (n : ℕ) (b : Bool) → (n == 16383) ≡ b → n ≤ 16383 → (if b then 1 else n + 1) ≤ 16383
next_instance_few n true e h = omega arith
next_instance_few n false e h = let apart : n ≢ 16383 = λ q. cc (eq-eqb n 16383 q) in omega arith

next_instance_some : (n : ℕ) (b : Bool) → 1 ≤ (if b then 1 else n + 1)
next_instance_some n true = omega arith
next_instance_some n false = omega arith

pub taken_keeps : (o : ObjNo) → KeepsSlot (taken_slot o)
taken_keeps o slot h = record {
  few = next_instance_few slot.instance (slot.instance == 16383) refl h.few;
  counted = λ x e. next_instance_some slot.instance (slot.instance == 16383);
}

pub freed_keeps : KeepsSlot freed_slot
freed_keeps slot h = record { few = h.few; counted = λ o e. cc }

free_index_le_step : (x : Option ObjNo) (n m : ℕ) → n ≤ m → (if is_none x then 0 else n + 1) ≤ suc m
free_index_le_step None n m h = omega arith
free_index_le_step (Some x) n m h = omega arith

pub free_index_le : (slots : List HandleSlot) → free_index slots ≤ length slots
free_index_le [] = omega arith
free_index_le (slot ∷ slots) = free_index_le_step slot.object _ _ (free_index_le slots)

-- where a table isn't full, its least free index is inside it
pub free_index_inside : (slots : List HandleSlot) → is_full slots ≡ false → free_index slots < length slots
free_index_inside slots h =
    let le = free_index_le slots in
    let apart : free_index slots ≢ length slots = λ e. cc (eq-eqb (free_index slots) (length slots) e) in
    omega arith

free_index_is_free_step : (slot : HandleSlot) (slots : List HandleSlot) (x : Option ObjNo) → slot.object ≡ x
    → (slot_at slots (free_index slots)).object ≡ None
    → (get_or (slot ∷ slots) (if is_none x then 0 else free_index slots + 1) fresh_slot).object ≡ None
free_index_is_free_step slot slots None e r = e
free_index_is_free_step slot slots (Some x) e r = rw add-one r

-- the least free slot is free
pub free_index_is_free : (slots : List HandleSlot) → (slot_at slots (free_index slots)).object ≡ None
free_index_is_free [] = refl
free_index_is_free (slot ∷ slots) = free_index_is_free_step slot slots slot.object refl (free_index_is_free slots)

pub object_of_step : (b : Bool) (x : Option ObjNo) (o : ObjNo) → (if b then x else None) ≡ Some o → x ≡ Some o
object_of_step true x o e = e
object_of_step false x o e = cc

-- a slot where a handle's object was found has that object
pub object_of_is : (local : Bool) (slot : HandleSlot) (handle : ℕ) (o : ObjNo) → object_of local slot handle ≡ Some o → slot.object ≡ Some o
object_of_is local slot handle o h = object_of_step (handle_number local (index_of handle) slot.instance == handle) slot.object o h

-- a slot with an object is inside its table
pub slot_inside : (slots : List HandleSlot) (i : ℕ) (o : ObjNo) → (slot_at slots i).object ≡ Some o → i < length slots
slot_inside [] i o h = cc
slot_inside (slot ∷ slots) zero o h = omega arith
slot_inside (slot ∷ slots) (suc i) o h = let r = slot_inside slots i o h in omega arith

-- a table with an index inside it is one of the tables
pub table_inside : (tables : List (List HandleSlot)) (k i : ℕ) → i < length (get_or tables k []) → k < length tables
table_inside [] k i h = absurd (omega arith)
table_inside (table ∷ tables) zero i h = omega arith
table_inside (table ∷ tables) (suc k) i h = let r = table_inside tables k i h in omega arith
