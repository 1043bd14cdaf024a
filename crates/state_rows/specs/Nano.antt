-- Reading the rows of threads that synchronize.
use Rattle.std.specs.Prelude.{ℕ, Bool, if◌then◌else◌, false, not, ◌==◌, ◌||◌, Option, Some, None, is_some, is_none, option_and_then, position, slice_index, slice_index_or}
use Rattle.sym_base.specs.declared.number.ObjNo.{ObjNo}
use Rattle.entry_log.specs.declared.entry.Actor.{Actor}
use Rattle.entry_log.specs.declared.entry.Actor.TheVariants.{Thread, Idfc, Idle}
use Rattle.state_rows.specs.declared.deferred.Item.{Item}
use Rattle.state_rows.specs.declared.nano.NanoRows.{NanoRows}

-- how many signals wait at a thread's fast semaphore
abbrev pub signal_count : NanoRows → ObjNo → ℕ
signal_count r t = slice_index r.signals t.0

-- how many suspensions of a thread aren't resumed
abbrev pub suspend_count : NanoRows → ObjNo → ℕ
suspend_count r t = slice_index r.suspensions t.0

-- how many critical sections a thread is in
abbrev pub critical_count : NanoRows → ObjNo → ℕ
critical_count r t = slice_index r.sections t.0

-- the fast mutex that a thread wants
abbrev pub want_of : NanoRows → ObjNo → Option ℕ
want_of r t = slice_index_or r.wants t.0 None

-- the thread that holds a fast mutex
abbrev pub holder_of : NanoRows → ℕ → Option ObjNo
holder_of r f = slice_index_or r.holders f None

-- whether a holder is a thread
abbrev pub is_thread : ObjNo → Option ObjNo → Bool
is_thread t None = false
is_thread t (Some holder) = holder.0 == t.0

-- whether nobody holds a fast mutex
abbrev pub is_free : NanoRows → ℕ → Bool
is_free r f = is_none (holder_of r f)

-- whether a thread holds a fast mutex
abbrev pub is_holder : NanoRows → ObjNo → ℕ → Bool
is_holder r t f = is_thread t (holder_of r f)

-- the fast mutex that a thread holds
abbrev pub held_by : NanoRows → ObjNo → Option ℕ
held_by r t = position (is_thread t) r.holders

-- whether a thread holds a fast mutex or is in a critical section
abbrev pub is_protected : NanoRows → ObjNo → Bool
is_protected r t = is_some (held_by r t) || not (critical_count r t == 0)

-- the thread that holds what a thread wants, if there is one
abbrev pub wanted_holder : NanoRows → ObjNo → Option ObjNo
wanted_holder r t = option_and_then (holder_of r) (want_of r t)

-- who acts in a thread's place: the holder of what it wants, or the thread itself
abbrev pub or_self : ObjNo → Option ObjNo → ObjNo
or_self t None = t
or_self t (Some u) = u

abbrev pub in_place_of : NanoRows → ObjNo → ObjNo
in_place_of r t = or_self t (wanted_holder r t)

-- the thread whose turn a time slice ends: one that holds a fast mutex is spared
abbrev pub turned : NanoRows → Option ObjNo → Option ObjNo
turned r None = None
turned r (Some t) = if is_some (held_by r t) then None else Some t

-- the actor that a choice gives: a thread, or nobody
abbrev pub actor_of : Option ObjNo → Actor
actor_of None = Idle
actor_of (Some t) = Thread t

-- the immediate queue comes first, where it has an item
abbrev pub item_or : Option Item → Actor → Actor
item_or None other = other
item_or (Some item) other = Idfc
