use Rattle.std.proofs.Common.{◌≡◌, ℕ, List, drop}
use Rattle.sym_base.specs.declared.limits.TheConstants.Limits.{BOOT_OBJECTS}
use Rattle.sym_base.specs.declared.number.ObjNo.{ObjNo}
use Rattle.kernel_tables.specs.ReadyQueues.{AreReady, leave_along}
use Rattle.kernel_tables.specs.StateOf.{state_of}
use Rattle.kernel_tables.proofs.Performing.{Left}
use Rattle.kernel_tables.proofs.ready.leave_each.Given as goal

abbrev pub invariant-loop-change : goal.invariant-loop-change
invariant-loop-change g l =
    (l.ready.threads ≡ BOOT_OBJECTS) × ((rank : ObjNo → ℕ) (qs : List ObjNo) → AreReady rank qs l.initial.ready
    → Left rank l.script (state_of l.tables) l.thread (drop l.change-index l.moves) l.ready
    (leave_along l.script (state_of l.tables) l.thread l.moves qs))
