use Rattle.std.proofs.Common.{◌≡◌, ◌++◌, drop, map}
use Rattle.nano.specs.Interrupts.{interrupt_of}
use Rattle.nano.proofs.interrupts.interrupts_of.Given as goal

abbrev pub invariant-loop-irq : goal.invariant-loop-irq
invariant-loop-irq l = l.interrupts.items ++ map (interrupt_of l.script) (drop l.irq-index l.script.irqs) ≡ map (interrupt_of l.script) l.script.irqs
