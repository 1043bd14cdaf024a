-- Who is out. A thread that found an object by its name comes back next, to open it. Where callers share the kernel it is out
-- meanwhile, and comes back at any later place; that is read off its row.
use Rattle.std.specs.Prelude.{ℕ, ◌==◌, ◌&&◌, Bool, true, false, if◌then◌else◌, Option, Some, None}
use Rattle.sym_base.specs.declared.number.ObjNo.{ObjNo}
use Rattle.entry_log.specs.declared.step.Part.{Part}
use Rattle.entry_log.specs.declared.step.Part.TheVariants.{Return}
use Rattle.state_rows.specs.ObjectRows.{place_of}
use Rattle.state_rows.specs.declared.thread.ThreadRow.{ThreadRow}
use Rattle.machine.specs.declared.state.State.{State}
use Rattle.machine.specs.References.{same, total}
use Rattle.machine.specs.Rows.{object_of, thread_of}

-- the next step of a thread, None also where there is no thread
abbrev pub part_of : Option ThreadRow → Option Part
part_of None = None
part_of (Some row) = row.part

-- whether a thread is between a find and its return
abbrev pub is_returning : Option Part → Bool
is_returning (Some Return) = true
is_returning _ = false

-- 1 where a thread found the object of this number and place and hasn't come back yet, else 0: another object may have the number since
abbrev pub seeks : ObjNo → ℕ → Option ThreadRow → ℕ
seeks o place None = 0
seeks o place (Some row) = if is_returning row.part && row.sought_place == place then same row.sought o else 0

-- how many threads are out on an object: none, unless callers share the kernel
abbrev pub outs_of : State → ObjNo → ℕ
outs_of S o = if S.mode.shared then total (seeks o (place_of (object_of S o))) S.references.threads else 0

-- whether a thread is out
abbrev pub is_out : State → ObjNo → Bool
is_out S t = S.mode.shared && is_returning (part_of (thread_of S t))
