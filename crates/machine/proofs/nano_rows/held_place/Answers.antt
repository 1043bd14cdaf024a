use Rattle.std.proofs.Common.{rules, tests}
use Rattle.std.proofs.lemmas.Iterator.{YieldsList-from_slice}
use Rattle.std.proofs.lemmas.Iterator.Search.{position_from_yields_List}
use Rattle.state_rows.specs.Nano.{is_thread}
use Rattle.machine.proofs.nano_rows.held_place.Goals as goal

pub returns-clause-place : goal.returns-clause-place
returns-clause-place c =
    position_from_yields_List (is_thread c.args.thread) _ _ _ c.position.ensures.ran
    (YieldsList-from_slice c.args.holders.now cc) (λ x b q k. search (rules, tests))
