use Rattle.std.proofs.Common.{◌≡◌, ◌++◌, replicate}
use Rattle.script_read.proofs.context.push_slots.Given as goal
use Rattle.script_types.specs.declared.script.Slot.TheVariants.{Go}

-- the slots so far
abbrev pub invariant-loop-i : goal.invariant-loop-i
invariant-loop-i l = l.slots ≡ l.fn.slots ++ replicate l._i Go
