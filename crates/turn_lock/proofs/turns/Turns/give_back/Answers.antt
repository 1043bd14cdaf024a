use Rattle.std.proofs.Common.{rules, ◌≡◌, ◌∙◌}
use Rattle.std.specs.Prelude.{Some, None}
use Rattle.turn_lock.proofs.Hands.{in_hand, found_in_hand, left_in_hand}
use Rattle.turn_lock.proofs.Turning.{retakes_at, gives_back_at}
use Rattle.turn_lock.proofs.turns.Turns.give_back.Goals as goal

pub load-requires : goal.load-requires
load-requires g c = let m = c.requires.may.1 in (search rules, search rules, retakes_at _ _ _ _ _ _ _ m.0 m.1 m.2)

pub exchange-requires : goal.exchange-requires
exchange-requires g c = let m = c.requires.may.1 in let t = c.load.ensures.2 m.0 m.1 m.2 in (search rules, in_hand _ _ _ t)

pub unreachable-requires : goal.unreachable-requires
unreachable-requires g c = let m = c.requires.may.1 in let t = c.load.ensures.2 m.0 m.1 m.2 in
    let found = found_in_hand c.load.new.seat.me _ _ _ t c.exchange.ensures.2 in let both : None ≡ Some c.in-Some.field-0 = found ∙ c.in-Some.is in cc

pub load-requires-2 : goal.load-requires-2
load-requires-2 g c = let m = c.requires.may.1 in let t = c.load.ensures.2 m.0 m.1 m.2 in (
  search rules,
  search rules,
  gives_back_at _ _ _ _ _ _ _ m.0 m.1 c.args.value c.requires.may.0
      (left_in_hand c.load.new.seat.me c.exchange.new.seat.me _ _ _ t c.exchange.ensures.3) m.3 m.4,
)

pub returns-clause-returns : goal.returns-clause-returns
returns-clause-returns g c x a gain e list = let t = c.load.ensures.2 x a e in
    c.load-2.ensures.2 x a c.args.value gain (left_in_hand c.load.new.seat.me c.exchange.new.seat.me _ _ _ t c.exchange.ensures.3) list
