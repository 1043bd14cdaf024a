-- Handle tables of processes and threads, and whose table a handle is in.
use Rattle.std.specs.Prelude.{ℕ, Bool, true, false, if◌then◌else◌, List, [], Option, Some, None, slice_set}
use Rattle.std.specs.List.{slice_index_or}
use Rattle.sym_base.specs.declared.number.ObjNo.{ObjNo}
use Rattle.entry_log.specs.declared.effect.Holder.{Holder}
use Rattle.entry_log.specs.declared.effect.Holder.TheVariants.{InProcess, InThread}
use Rattle.state_rows.specs.declared.handle_slot.HandleSlot.{HandleSlot}
use Rattle.state_rows.specs.declared.thread.ThreadRow.{ThreadRow}
use Rattle.state_rows.specs.HandleNumbers.{next_instance, index_of, is_local}
use Rattle.state_rows.specs.HandleSlots.{slot_at, free_index, is_full, new_handle, look}
use Rattle.machine.specs.declared.handles.NewHandle.{NewHandle}
use Rattle.machine.specs.declared.state.State.{State}
use Rattle.machine.specs.Rows.{table_of}

-- the handle that a table gives next: it stands at the least free index. None where no slot is free
abbrev pub next_handle : Bool → (ℕ → Holder) → List HandleSlot → Option NewHandle
next_handle local holder table = if is_full table then None else Some (record { holder = holder (free_index table); number = new_handle local table })

-- the next handle in a process's table, and in a thread's
abbrev pub process_handle : State → ObjNo → Option NewHandle
process_handle S p = next_handle false (InProcess p) (table_of S p)

abbrev pub thread_handle : State → ObjNo → Option NewHandle
thread_handle S t = next_handle true (InThread t) (table_of S t)

-- a slot that takes a handle of the object, and one whose handle goes: it keeps its instance
abbrev pub taken_slot : ObjNo → HandleSlot → HandleSlot
taken_slot o slot = record { instance = next_instance slot.instance; object = Some o }

abbrev pub freed_slot : HandleSlot → HandleSlot
freed_slot slot = record slot { object = None }

-- the tables, with a change of one slot
abbrev pub with_slot : List (List HandleSlot) → ObjNo → ℕ → (HandleSlot → HandleSlot) → List (List HandleSlot)
with_slot tables owner i change =
    slice_set tables owner.0 (slice_set (slice_index_or tables owner.0 []) i (change (slot_at (slice_index_or tables owner.0 []) i)))

-- whose table a handle is in: bit 30 chooses the thread's own
abbrev pub owner_of : ObjNo → ThreadRow → ℕ → ObjNo
owner_of t row handle = if is_local handle then t else row.process

-- the holder whose reference a handle is
abbrev pub holder_of : ObjNo → ThreadRow → ℕ → Holder
holder_of t row handle = if is_local handle then InThread t (index_of handle) else InProcess row.process (index_of handle)

-- the object that a thread's handle names
abbrev pub object_at : State → ObjNo → ThreadRow → ℕ → Option ObjNo
object_at S t row handle = look (is_local handle) (table_of S (owner_of t row handle)) handle
