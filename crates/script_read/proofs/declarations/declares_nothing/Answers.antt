use Rattle.std.proofs.Common.{◌≡◌, false, ◌∙◌, arith, refl, sym}
use Rattle.std.proofs.lemmas.Bool.Decides.{nat_tests}
use Rattle.script_read.proofs.FileLines.{none_from}
use Rattle.script_read.proofs.declarations.declares_nothing.Goals as goal

pub returns-in-len1-up : goal.returns-in-len1-up
returns-in-len1-up c = λ none.
    let some = c.in-len1-up.len_at_least in
    let other : c.may_declare.result ≡ false = grind (arith, nat_tests) in
    none_from c.args.line.now _ (omega arith) refl (sym c.may_declare.ensures ∙ other)
