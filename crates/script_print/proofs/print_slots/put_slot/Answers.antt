use Rattle.std.proofs.Common.{sym, ap, ◌∙◌}
use Rattle.script_types.specs.declared.script.Slot.TheVariants as slot
use Rattle.script_print.proofs.PartLaws.{tick_texts, irq_texts}
use Rattle.script_print.proofs.print_slots.put_slot.Goals as goal

pub returns-in_ok-put_line-in-Irq-clause-text : goal.returns-in_ok-put_line-in-Irq-clause-text
returns-in_ok-put_line-in-Irq-clause-text c =
    λ rest. irq_texts c.args.run c.from.result c.args.slot c.args.out.now.items c.put_run.new.out.items
    c.put_line.new.out.items rest (c.in-Irq.is ∙ ap slot.Irq (sym c.from.ensures)) c.in_ok-put_run-in-Irq.ensures
    c.in_ok-put_line-in-Irq.ensures

pub returns-in_ok-put_line-in-Tick-clause-text : goal.returns-in_ok-put_line-in-Tick-clause-text
returns-in_ok-put_line-in-Tick-clause-text c =
    λ rest. tick_texts c.args.run c.args.slot c.args.out.now.items c.put_run-in-Tick.new.out.items
    c.put_line-in-Tick.new.out.items rest c.in-Tick.is c.in_ok-put_run-in-Tick.ensures c.in_ok-put_line-in-Tick.ensures
