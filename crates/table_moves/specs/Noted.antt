-- What is noted of threads for their deaths: what they owe, and what their calls use.
use Rattle.std.specs.Prelude.{◌≡◌, List, map, Option, Some, None, slice_set}
use Rattle.std.specs.List.{slice_index_or}
use Rattle.sym_base.specs.declared.number.ObjNo.{ObjNo}
use Rattle.entry_log.specs.declared.effect.Holder.{Holder}
use Rattle.entry_log.specs.declared.effect.Holder.TheVariants.{Temp}
use Rattle.state_rows.specs.declared.duty.Owed.{Owed}
use Rattle.cleanup.specs.Lists.{Lists}
use Rattle.state_rows.specs.declared.thread.ThreadRow.{ThreadRow}
use Rattle.machine.specs.Moves.{use_of_row}

-- the lists where threads owe this
abbrev pub with_duties : Lists → List (List Owed) → Lists
with_duties s duties = record s { duties = duties }

-- the lists where a thread's call uses this
abbrev pub with_use : Lists → ObjNo → Option ObjNo → Lists
with_use s t uses = record s { temporary = slice_set s.temporary t.0 uses }

-- the lists where a holder gets a reference, and where it gives its one up
abbrev pub use_gained : Holder → ObjNo → Lists → Lists
use_gained (Temp t) o s = with_use s t (Some o)
use_gained _ o s = s

abbrev pub use_lost : Holder → Lists → Lists
use_lost (Temp t) s = with_use s t None
use_lost _ s = s

-- a holder may get a reference: a thread's call uses nothing yet
abbrev pub MayUse : Lists → Holder → Type 0
MayUse s (Temp t) = slice_index_or s.temporary t.0 None ≡ None
MayUse s _ = Unit {0}

-- what is noted as used is what the threads' rows say
abbrev pub AreNoted : Lists → List (Option ThreadRow) → Type 0
AreNoted s threads = s.temporary ≡ map use_of_row threads
