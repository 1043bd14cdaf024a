-- Who acts next, and what the end of a time slice does, read off the nanokernel's tables.
use Rattle.std.specs.Prelude.{ℕ, Bool, Option, Some, None, option_map, option_and_then}
use Rattle.std.specs.List.{list_any}
use Rattle.sym_base.specs.declared.number.ObjNo.{ObjNo}
use Rattle.entry_log.specs.declared.entry.Actor.{Actor}
use Rattle.state_rows.specs.declared.deferred.DeferredRows.{DeferredRows}
use Rattle.state_rows.specs.declared.nano.NanoRows.{NanoRows}
use Rattle.state_rows.specs.Deferred.{next_immediate}
use Rattle.state_rows.specs.Nano.{in_place_of, actor_of, item_or, turned}
use Rattle.ready_list.specs.Queue.{holds}
use Rattle.ready_list.specs.Ready.{Ready, priority_of, rotated, first_of_highest}

-- the first thread of the highest queue, or the holder of the fast mutex that it wants
abbrev pub chosen_thread : Ready → NanoRows → Actor
chosen_thread ready sync = actor_of (option_map (in_place_of sync) (first_of_highest ready.queues))

-- the oldest item of the immediate queue comes before any thread
abbrev pub chosen : Ready → NanoRows → DeferredRows → Actor
chosen ready sync deferred = item_or (next_immediate deferred) (chosen_thread ready sync)

-- whether a thread stands in a queue
abbrev pub is_listed : Ready → ObjNo → Bool
is_listed ready t = list_any (holds t) ready.queues

-- the first thread of this priority stands behind the others, where there is a priority
abbrev pub rotated_at : Ready → Option ℕ → Ready
rotated_at ready None = ready
rotated_at ready (Some p) = rotated ready p

-- the first thread of the highest queue stands behind the others of it, unless it holds a fast mutex
abbrev pub after_tick : Ready → NanoRows → Ready
after_tick ready sync = rotated_at ready (option_and_then (priority_of ready) (turned sync (first_of_highest ready.queues)))
