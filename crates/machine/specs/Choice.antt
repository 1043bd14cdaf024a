-- The choice of the next actor: the oldest item of the immediate queue, where it has one; else the ready thread of
-- greatest priority that has been ready longest, or, where it wants a fast mutex that is held, the holder of that. The ready
-- list, in order of arrival, stands beside the state.
use Rattle.state_rows.specs.Deferred.{next_immediate}
use Rattle.state_rows.specs.Nano.{in_place_of, actor_of, item_or}
use Rattle.std.specs.Prelude.{ℕ, List, Option, Some, None, option_map}
use Rattle.sym_base.specs.Greatest.{first_of_greatest}
use Rattle.sym_base.specs.declared.number.ObjNo.{ObjNo}
use Rattle.entry_log.specs.declared.entry.Actor.{Actor}
use Rattle.state_rows.specs.declared.thread.ThreadRow.{ThreadRow}
use Rattle.machine.specs.declared.state.State.{State}
use Rattle.machine.specs.Rows.{thread_of}

-- the priority of a thread, 0 where there is none
abbrev pub priority_of_row : Option ThreadRow → ℕ
priority_of_row None = 0
priority_of_row (Some row) = row.priority

abbrev pub priority_of : State → ObjNo → ℕ
priority_of S t = priority_of_row (thread_of S t)

-- the ready thread of greatest priority that has been ready longest
abbrev pub first_ready : State → List ObjNo → Option ObjNo
first_ready S qs = first_of_greatest (priority_of S) qs

-- the thread that acts next: that one, or who acts in its place; or nobody
abbrev pub chosen_thread : State → List ObjNo → Actor
chosen_thread S qs = actor_of (option_map (in_place_of S.synchronization.nano) (first_ready S qs))

-- who acts next
abbrev pub chosen : State → List ObjNo → Actor
chosen S qs = item_or (next_immediate S.synchronization.deferred) (chosen_thread S qs)
