use Rattle.std.proofs.Common.{rules, ap}
use Rattle.count_rule.proofs.Taken.{joins_allowed}
use Rattle.count_rule.proofs.steps.join.Goals as goal

pub join_seat-requires : goal.join_seat-requires
join_seat-requires c = let seat = c.requires.seat in let r = c.requires in
    (search rules, search rules, search rules, search rules, joins_allowed _ _ _ _ seat.1 (ap (λ m. m.0) seat.2) r.calm (ap (λ m. m.0) r.ticket))
