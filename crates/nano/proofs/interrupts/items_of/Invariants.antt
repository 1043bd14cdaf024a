use Rattle.std.proofs.Common.{◌≡◌, ◌++◌, drop}
use Rattle.std.specs.Prelude.{filter_map}
use Rattle.nano.specs.Interrupts.{item_of}
use Rattle.nano.proofs.interrupts.items_of.Given as goal

abbrev pub invariant-loop-op : goal.invariant-loop-op
invariant-loop-op l = l.items.items ++ filter_map (item_of l.script) (drop l.op-index l.body) ≡ filter_map (item_of l.script) l.body
