use Rattle.std.proofs.Common.{◌≡◌, ◌≤◌, ◌++◌, drop, replicate}
use Rattle.script_print.specs.CanonicalText.{source_texts, slots_lines}
use Rattle.script_types.specs.declared.script.Slot.TheVariants.{Go}
use Rattle.script_print.proofs.print_slots.put_slots.Given as goal

-- the slots so far whose line isn't written yet, and the lines of those that are left
abbrev pub invariant-loop-slot : goal.invariant-loop-slot
invariant-loop-slot l = record {
  text : l.out.items ++ source_texts (slots_lines (replicate l.run Go ++ drop l.slot-index l.slots)) ≡ l.fn.out.items ++ source_texts (slots_lines l.slots);
  few : l.run ≤ l.slot-index;
}
