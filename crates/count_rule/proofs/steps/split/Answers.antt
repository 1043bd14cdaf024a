use Rattle.std.proofs.Common.{rules, ap}
use Rattle.count_rule.proofs.Sent.{splits_allowed}
use Rattle.count_rule.proofs.steps.split.Goals as goal

pub split_seat-requires : goal.split_seat-requires
split_seat-requires g c = let seat = c.requires.seat in let r = c.requires in
    (search rules, search rules, rw (← r.picked) (splits_allowed _ _ _ seat.1 (ap (λ m. m.0) seat.2) r.calm r.created r.small r.few_out r.few_made))
