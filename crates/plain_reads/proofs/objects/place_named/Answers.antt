use Rattle.std.proofs.Common.{rules, tests}
use Rattle.std.proofs.lemmas.Iterator.{YieldsList-from_slice}
use Rattle.std.proofs.lemmas.Iterator.Search.{position_from_yields_List}
use Rattle.state_rows.specs.ObjectRows.{has_name}
use Rattle.plain_reads.proofs.objects.place_named.Goals as goal

pub returns-clause-place : goal.returns-clause-place
returns-clause-place c =
    position_from_yields_List (has_name c.args.kind c.args.name.now) _ _ _ c.position.ensures.ran
    (YieldsList-from_slice c.args.rows.now cc) (λ x b q k. search (rules, tests))
