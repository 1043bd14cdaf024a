use Rattle.std.proofs.Common.{rules, tests}
use Rattle.std.proofs.lemmas.Iterator.{YieldsList-from_slice}
use Rattle.std.proofs.lemmas.Iterator.Search.{position_from_yields_List}
use Rattle.machine.specs.Reaping.{is_buried_by}
use Rattle.plain_reads.proofs.burials.burial_place.Goals as goal

pub returns-clause-place : goal.returns-clause-place
returns-clause-place c =
    position_from_yields_List (is_buried_by c.args.script.now c.args.dfc) _ _ _ c.position.ensures.ran
    (YieldsList-from_slice c.args.rows.now cc) (λ x b q k. search (rules, tests))
