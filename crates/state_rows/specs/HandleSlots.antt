-- The places of a handle table, in order of their indices.
use Rattle.std.specs.Prelude.{◌≡◌, ℕ, ◌+◌, ◌≤◌, Bool, ◌==◌, is_none, is_some, if◌then◌else◌, List, [], ◌∷◌, length, count_by, Option, Some, None}
use Rattle.std.specs.List.{slice_index_or}
use Rattle.sym_base.specs.declared.number.ObjNo.{ObjNo}
use Rattle.sym_base.specs.declared.limits.TheConstants.Limits.{HANDLES}
use Rattle.state_rows.specs.declared.handle_slot.HandleSlot.{HandleSlot}
use Rattle.state_rows.specs.HandleNumbers.{handle_number, index_of, next_instance}

-- a place that was never taken
abbrev pub fresh_slot : HandleSlot
fresh_slot = record { instance = 0; object = None }

-- the place of an index, a fresh one past the table's end
abbrev pub slot_at : List HandleSlot → ℕ → HandleSlot
slot_at slots index = slice_index_or slots index fresh_slot

-- a table has 256 places, no instance past 16,383, and no handle with the instance 0
pub record IsTable (slots : List HandleSlot) : Type 0 where
  pub size : length slots ≡ HANDLES
  pub instances : (i : ℕ) → (slot_at slots i).instance ≤ 16383
  pub counted : (i : ℕ) (o : ObjNo) → (slot_at slots i).object ≡ Some o → 1 ≤ (slot_at slots i).instance

-- the least free index of a table, its length where there is none
abbrev pub free_index : List HandleSlot → ℕ
free_index [] = 0
free_index (slot ∷ slots) = if is_none slot.object then 0 else free_index slots + 1

-- whether no place is free
abbrev pub is_full : List HandleSlot → Bool
is_full slots = free_index slots == length slots

-- how many handles there are
abbrev pub handle_count : List HandleSlot → ℕ
handle_count slots = count_by (λ slot. is_some slot.object) slots

-- the instance that the least free place gets
abbrev pub new_instance : List HandleSlot → ℕ
new_instance slots = next_instance (slot_at slots (free_index slots)).instance

-- the number of the handle that the least free place gives
abbrev pub new_handle : Bool → List HandleSlot → ℕ
new_handle local slots = handle_number local (free_index slots) (new_instance slots)

-- the object of a place, where a handle's number is that of the place now
abbrev pub object_of : Bool → HandleSlot → ℕ → Option ObjNo
object_of local slot handle = if handle_number local (index_of handle) slot.instance == handle then slot.object else None

-- the object that a handle names: none for a free place or another instance
abbrev pub look : Bool → List HandleSlot → ℕ → Option ObjNo
look local slots handle = object_of local (slot_at slots (index_of handle)) handle
