use Rattle.std.proofs.Common.{rules}
use Rattle.count_rule.proofs.Moved.{creates_allowed}
use Rattle.count_rule.proofs.steps.create.Goals as goal

pub store-requires : goal.store-requires
store-requires c = let seat = c.requires.seat in (search rules, search rules, creates_allowed _ _ _ _ seat.1 seat.2 c.requires.calm c.requires.fresh)
