use Rattle.std.proofs.Common.{rules, tests}
use Rattle.std.specs.Prelude.{◌==◌}
use Rattle.std.proofs.lemmas.Iterator.{YieldsList-from_slice}
use Rattle.std.proofs.lemmas.Iterator.Search.{position_from_yields_List}
use Rattle.script_types.specs.declared.declaration.IrqBody.{IrqBody}
use Rattle.next_actions.proofs.bodies.irq_place.Goals as goal

pub returns : goal.returns
returns c =
    position_from_yields_List (λ (irq : IrqBody). irq.number == c.args.number) _ _ _ c.position.ensures.ran
    (YieldsList-from_slice c.args.script.now.irqs cc) (λ x b q k. search (rules, tests))
