use Rattle.std.proofs.Common.{rules, tests, eqb}
use Rattle.std.proofs.lemmas.Iterator.{YieldsList-from_slice}
use Rattle.std.proofs.lemmas.Iterator.Search.{position_from_yields_List}
use Rattle.nano.specs.declared.interrupts.InterruptBody.{InterruptBody}
use Rattle.nano.proofs.nano.place_of.Goals as goal

pub returns : goal.returns
returns c =
    position_from_yields_List (λ (declared : InterruptBody). eqb declared.number c.args.k) _ _ _ c.position.ensures.ran
    (YieldsList-from_slice c.args.interrupts.now cc) (λ x b q k. search (rules, tests))
