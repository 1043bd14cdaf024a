use Rattle.std.proofs.Common.{◌≡◌, true, arith, sym}
use Rattle.std.proofs.lemmas.Bool.Decides.{nat_tests}
use Rattle.script_read.proofs.NameSets.{number_added, none_added}
use Rattle.script_read.proofs.declarations.add_irq.Goals as goal

pub returns-in_default : goal.returns-in_default
returns-in_default c = λ k small. none_added c.args.irqs.now c.args.word.now c.args.is_irq k (sym c.in_default.ensures.value) small

pub returns : goal.returns
returns c =
    let here : c.args.is_irq ≡ true = grind (arith, nat_tests) in
    λ k small. number_added c.args.irqs.now c.insert.new.self c.args.word.now c.in-Some.number c.args.is_irq k here
    (sym c.in-Some.ensures.value) small c.in_ok-insert.ensures.updates.0
