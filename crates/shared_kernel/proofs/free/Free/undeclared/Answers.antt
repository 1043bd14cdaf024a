use Rattle.std.proofs.Common.{◌∙◌, sym, true, false}
use Rattle.shared_kernel.proofs.Doing.{undeclared-at, undeclared-other}
use Rattle.shared_kernel.proofs.free.Free.undeclared.Goals as goal

pub returns-in_default : goal.returns-in_default
returns-in_default c = undeclared-other c.args.self.now.script c.args.slot c.in_default.not-Irq

pub returns-then-declares : goal.returns-then-declares
returns-then-declares c =
    rw (← c.self.view_is) (undeclared-at c.self.inside.kernel.script c.args.slot c.in-Irq.k true c.in-Irq.is
    (sym c.if-declares.true ∙ c.declares.ensures))

pub returns-else-declares : goal.returns-else-declares
returns-else-declares c =
    rw (← c.self.view_is) (undeclared-at c.self.inside.kernel.script c.args.slot c.in-Irq.k false c.in-Irq.is
    (sym c.if-declares.false ∙ c.declares.ensures))
