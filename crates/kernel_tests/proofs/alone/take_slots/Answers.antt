use Rattle.std.proofs.Common.{rules, ◌∙◌, ap, ◌+◌, false, length}
use Rattle.std.proofs.lemmas.List.{length-append}
use Rattle.machine_laws.proofs.ValidSlots.{valid_slot_is_declared}
use Rattle.kcore.proofs.ModesSuit.{fresh-suits, whole-suits}
use Rattle.kernel_tests.proofs.alone.take_slots.Goals as goal

pub slot-requires-clause-declared : goal.slot-requires-clause-declared
slot-requires-clause-declared c =
    rw (c.loop-slot.invariant.script, c.requires.slots)
    (valid_slot_is_declared c.args.kernel.now.script c.loop-slot.slot-index c.requires.valid)

pub loop-slot-init : goal.loop-slot-init
loop-slot-init c = record {
  script = search rules;
  alone = fresh-suits false _ c.requires.fresh;
  room = c.requires.room ∙ ap length c.requires.slots;
  count = ap length c.requires.empty;
}

pub loop-slot-preserved : goal.loop-slot-preserved
loop-slot-preserved c = record {
  script = search rules;
  alone = whole-suits _ c.slot.ensures.mode;
  room = search rules;
  count = ap length c.slot.ensures.entry ∙ length-append c.loop-slot.kernel.history _ ∙ ap (λ n. n + 1) c.loop-slot.invariant.count;
}
