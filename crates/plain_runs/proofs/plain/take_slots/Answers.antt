use Rattle.std.proofs.Common.{◌∙◌, ◌+◌, ap, arith, length}
use Rattle.std.proofs.lemmas.List.{length-append}
use Rattle.machine_laws.proofs.ValidSlots.{valid_slot_is_declared, valid_slots_few}
use Rattle.plain_runs.proofs.plain.take_slots.Goals as goal

pub slot-requires-clause-whole : goal.slot-requires-clause-whole
slot-requires-clause-whole c = c.loop-slot.invariant.whole

pub slot-requires-clause-declared : goal.slot-requires-clause-declared
slot-requires-clause-declared c =
    rw (c.loop-slot.invariant.script, c.requires.slots)
    (valid_slot_is_declared c.args.plain.now.script c.loop-slot.slot-index c.requires.valid)

pub slot-requires-clause-few : goal.slot-requires-clause-few
slot-requires-clause-few c =
    let below = rw c.requires.slots at c.loop-slot-test.true in
    omega (arith, c.loop-slot.invariant.count, valid_slots_few c.args.plain.now.script c.requires.valid)

pub loop-slot-preserved : goal.loop-slot-preserved
loop-slot-preserved c = record {
  script = c.slot.ensures.script ∙ c.loop-slot.invariant.script;
  count = ap length c.in_ok-slot.ensures.ok ∙ length-append c.loop-slot.plain.history _ ∙ ap (λ n. n + 1) c.loop-slot.invariant.count;
  whole = c.slot.ensures.whole;
}
