use Rattle.std.proofs.Common.{◌≡◌, ◌++◌, drop, map, replicate}
use Rattle.machine.specs.declared.boot.Born.{Born}
use Rattle.state_rows.specs.HandleSlots.{fresh_slot}
use Rattle.machine.proofs.boot_lists.fresh_tables.Given as goal

abbrev pub invariant-loop-born : goal.invariant-loop-born
invariant-loop-born l =
    l.tables.items ++ map (λ (b : Born). replicate 256 fresh_slot) (drop l._born-index l.all)
    ≡ map (λ (b : Born). replicate 256 fresh_slot) l.all
