-- Reading and changing lists of rows by number. A number without a row reads as none, and changing it changes
-- nothing.
use Rattle.std.specs.Prelude.{List, [], ◌∷◌, ◌++◌, Option, Some, None, slice_set, option_map, drop}
use Rattle.std.specs.List.{slice_index_or}
use Rattle.sym_base.specs.declared.number.ObjNo.{ObjNo}
use Rattle.state_rows.specs.declared.duty.Owed.{Owed}
use Rattle.state_rows.specs.declared.object.ObjectRow.{ObjectRow}
use Rattle.state_rows.specs.declared.handle_slot.HandleSlot.{HandleSlot}
use Rattle.state_rows.specs.declared.thread.ThreadRow.{ThreadRow}
use Rattle.machine.specs.declared.state.State.{State}

-- the object of this number, where it was made and isn't swept
abbrev pub object_of : State → ObjNo → Option ObjectRow
object_of S o = slice_index_or S.references.objects o.0 None

-- the handle table of a process or a thread
abbrev pub table_of : State → ObjNo → List HandleSlot
table_of S owner = slice_index_or S.references.handles owner.0 []

-- the thread of this number
abbrev pub thread_of : State → ObjNo → Option ThreadRow
thread_of S t = slice_index_or S.references.threads t.0 None

-- what a thread owes, the oldest first
abbrev pub owed_of : State → ObjNo → List Owed
owed_of S t = slice_index_or S.references.owed t.0 []

-- the oldest of what it owes
abbrev pub first_of : List Owed → Option Owed
first_of [] = None
first_of (what ∷ rest) = Some what

abbrev pub first_owed : State → ObjNo → Option Owed
first_owed S t = first_of (owed_of S t)

-- the rows of threads, with a change of one
abbrev pub with_row : List (Option ThreadRow) → ObjNo → (ThreadRow → ThreadRow) → List (Option ThreadRow)
with_row threads t change = slice_set threads t.0 (option_map change (slice_index_or threads t.0 None))

-- what threads owe, where one owes more, behind what it owes already
abbrev pub owing : List (List Owed) → ObjNo → List Owed → List (List Owed)
owing owed t more = slice_set owed t.0 (slice_index_or owed t.0 [] ++ more)

-- what threads owe, where one doesn't owe the oldest of it any more
abbrev pub without_first : List (List Owed) → ObjNo → List (List Owed)
without_first owed t = slice_set owed t.0 (drop 1 (slice_index_or owed t.0 []))
