-- Queues of ready threads by priority.
use Rattle.std.specs.Prelude.{ℕ, List, [], ◌∷◌, ◌++◌, Option, Some, None, map, replicate, position, IsTrue, slice_get, slice_index_or, slice_set}
use Rattle.std.specs.List.{list_any}
use Rattle.sym_base.specs.declared.number.ObjNo.{ObjNo}
use Rattle.ready_list.specs.Queue.{holds, without, turned}

-- the number of threads that the list is made for, and the queue of each priority
pub record Ready : Type 0 where
  pub threads : ℕ
  pub queues : List (List ObjNo)

-- nobody is ready at any of the 64 priorities
abbrev pub no_threads : ℕ → Ready
no_threads n = record { threads = n; queues = replicate 64 [] }

-- the queue of a priority
abbrev pub queue_at : Ready → ℕ → List ObjNo
queue_at r p = slice_index_or r.queues p []

-- the thread stands in some queue
abbrev pub IsReady : Ready → ObjNo → Type 0
IsReady r t = IsTrue (list_any (holds t) r.queues)

-- the priority of the queue in which a thread stands
abbrev pub priority_of : Ready → ObjNo → Option ℕ
priority_of r t = position (holds t) r.queues

-- the thread stands last in the queue of its priority
abbrev pub added : Ready → ObjNo → ℕ → Ready
added r t p = record r { queues = slice_set r.queues p (queue_at r p ++ t ∷ []) }

-- the thread stands in no queue
abbrev pub removed : Ready → ObjNo → Ready
removed r t = record r { queues = map (without t) r.queues }

-- the first of a priority stands behind the others
abbrev pub rotated : Ready → ℕ → Ready
rotated r p = record r { queues = slice_set r.queues p (turned (queue_at r p)) }

-- the thread stands last in the queue of its new priority, and in no other
abbrev pub moved : Ready → ObjNo → ℕ → Ready
moved r t p = added (removed r t) t p

-- the one where there is one, else the other
abbrev pub or_else : Option ObjNo → Option ObjNo → Option ObjNo
or_else (Some t) other = Some t
or_else None other = other

-- the first of the highest queue that isn't empty
abbrev pub first_of_highest : List (List ObjNo) → Option ObjNo
first_of_highest [] = None
first_of_highest (queue ∷ higher) = or_else (first_of_highest higher) (slice_get queue 0)
