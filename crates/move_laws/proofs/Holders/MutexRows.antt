-- What a mutex more or less does to who holds what.
use Rattle.std.proofs.Common.{◌≡◌, ◌+◌, ◌<◌, List, length, arith, Option}
use Rattle.sym_base.specs.declared.number.ObjNo.{ObjNo}
use Rattle.entry_log.specs.declared.effect.Holder.{Holder}
use Rattle.entry_log.specs.declared.effect.Holder.TheVariants.{Own}
use Rattle.state_rows.specs.declared.handle_slot.HandleSlot.{HandleSlot}
use Rattle.state_rows.specs.declared.thread.ThreadRow.{ThreadRow}
use Rattle.machine.specs.HeldIn.{rows_hold}
use Rattle.machine.specs.Holding.{same_pair}
use Rattle.machine.specs.LockMoves.{holding, not_holding}
use Rattle.machine.specs.WellFormed.{times_held}
use Rattle.move_laws.proofs.References.Mutexes.{held-holding, held-not_holding}

-- a thread holds a mutex more
pub rows-holding : (tables : List (List HandleSlot)) (threads : List (Option ThreadRow)) (mutexes : List (List ObjNo))
    (t o : ObjNo)
    → t.0 < length mutexes → (g : Holder) (x : ObjNo)
    → rows_hold tables threads (holding mutexes t o) g x
    ≡ rows_hold tables threads mutexes g x + same_pair (Own t) o g x
rows-holding tables threads mutexes t o h (Own u) x = held-holding mutexes t o u x h
rows-holding tables threads mutexes t o h _ x = omega arith

-- and one less
pub rows-not_holding : (tables : List (List HandleSlot)) (threads : List (Option ThreadRow))
    (mutexes : List (List ObjNo)) (t o : ObjNo)
    → t.0 < length mutexes → times_held mutexes t o ≡ 1 → (g : Holder) (x : ObjNo)
    → rows_hold tables threads (not_holding mutexes t o) g x + same_pair (Own t) o g x
    ≡ rows_hold tables threads mutexes g x
rows-not_holding tables threads mutexes t o h once (Own u) x = held-not_holding mutexes t o u x h once
rows-not_holding tables threads mutexes t o h once _ x = omega arith
