use Rattle.std.proofs.Common.{◌≡◌, ◌+◌, drop}
use Rattle.state_rows.specs.HandleSlots.{free_index}
use Rattle.state_rows.proofs.handle_slot.free_index.Given as goal

abbrev pub invariant-loop-index : goal.invariant-loop-index
invariant-loop-index l = free_index l.slots ≡ l.index + free_index (drop l.index l.slots)
