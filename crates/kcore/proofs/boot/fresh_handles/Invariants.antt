use Rattle.std.proofs.Common.{◌≡◌, map, replicate, take}
use Rattle.sym_base.specs.declared.limits.TheConstants.Limits.{HANDLES}
use Rattle.state_rows.specs.HandleSlots.{fresh_slot}
use Rattle.kernel_tables.specs.StateOf.{slots_of}
use Rattle.kcore.proofs.boot.fresh_handles.Given as goal

abbrev pub invariant-loop-born : goal.invariant-loop-born
invariant-loop-born l = slots_of l.tables.items ≡ map (λ _. replicate HANDLES fresh_slot) (take l.born-index l.all)
