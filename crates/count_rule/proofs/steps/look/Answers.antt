use Rattle.std.proofs.Common.{rules}
use Rattle.count_rule.proofs.Moved.{looks_allowed}
use Rattle.count_rule.proofs.steps.look.Goals as goal

pub load-requires : goal.load-requires
load-requires c = let seat = c.requires.seat in (search rules, search rules, looks_allowed _ _ _ _ seat.1 seat.2)
