-- What the calls on a handle table answer and leave.
use Rattle.std.specs.Prelude.{ℕ, Bool, if◌then◌else◌, is_some, List, Some, None, replicate, slice_set}
use Rattle.sym_base.specs.declared.number.ObjNo.{ObjNo}
use Rattle.sym_base.specs.declared.limits.TheConstants.Limits.{HANDLES}
use Rattle.state_rows.specs.declared.handle_slot.HandleSlot.{HandleSlot}
use Rattle.handles.specs.declared.table.Added.{Added}
use Rattle.handles.specs.declared.table.Added.TheVariants.{Handle, Full}
use Rattle.handles.specs.HandleTable.{HandleTable}
use Rattle.state_rows.specs.HandleNumbers.{handle_number, index_of}
use Rattle.state_rows.specs.HandleSlots.{fresh_slot, slot_at, free_index, is_full, new_instance, new_handle, look}

-- a table whose places were never taken
abbrev pub no_handles : Bool → HandleTable
no_handles local = record { local = local; slots = replicate HANDLES fresh_slot }

-- the number of the handle at an index: of the last one there, where the place is free
abbrev pub number_at : HandleTable → ℕ → ℕ
number_at t index = handle_number t.local index (slot_at t.slots index).instance

-- the answer of an adding
abbrev pub add_answer : HandleTable → Added
add_answer t = if is_full t.slots then Full else Handle (new_handle t.local t.slots)

-- the least free place has the object, with its next instance
abbrev pub slots_added : List HandleSlot → ObjNo → List HandleSlot
slots_added slots o = slice_set slots (free_index slots) (record { instance = new_instance slots; object = Some o })

-- the table after an adding
abbrev pub table_added : HandleTable → ObjNo → HandleTable
table_added t o = record t { slots = if is_full t.slots then t.slots else slots_added t.slots o }

-- the place of this index is free, and keeps its instance
abbrev pub slots_removed : List HandleSlot → ℕ → List HandleSlot
slots_removed slots index = slice_set slots index (record (slot_at slots index) { object = None })

-- the table without a handle, where it has it
abbrev pub table_removed : HandleTable → ℕ → HandleTable
table_removed t handle = record t { slots = if is_some (look t.local t.slots handle) then slots_removed t.slots (index_of handle) else t.slots }
