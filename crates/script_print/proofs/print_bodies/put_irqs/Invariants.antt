use Rattle.std.proofs.Common.{◌≡◌, ◌++◌, map, take}
use Rattle.script_print.specs.CanonicalText.{source_texts, irq_line}
use Rattle.script_print.proofs.print_bodies.put_irqs.Given as goal

-- the lines so far
abbrev pub invariant-loop-irq : goal.invariant-loop-irq
invariant-loop-irq l = l.out.items ≡ l.fn.out.items ++ source_texts (map irq_line (take l.irq-index l.irqs))
