use Rattle.std.proofs.Common.{◌≡◌, true, arith}
use Rattle.std.proofs.lemmas.Bool.Decides.{nat_tests}
use Rattle.script_read.proofs.NameSets.{name_added}
use Rattle.script_read.proofs.declarations.add_name.Goals as goal

pub returns : goal.returns
returns c =
    let here : c.args.is_of_sort ≡ true = grind (arith, nat_tests) in
    λ q. name_added c.args.names.now c.insert.new.self c.args.name c.args.is_of_sort q here c.in_ok-insert.ensures.updates.0
