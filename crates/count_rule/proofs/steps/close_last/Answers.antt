use Rattle.std.proofs.Common.{rules}
use Rattle.count_rule.proofs.Tried.{tries_allowed}
use Rattle.count_rule.proofs.steps.close_last.Goals as goal

pub compare_exchange-before-requires : goal.compare_exchange-before-requires
compare_exchange-before-requires c =
    let seat = c.requires.seat in
    (search rules, search rules, tries_allowed _ _ _ _ seat.1 seat.2 c.requires.calm c.requires.one)
