use Rattle.std.proofs.Common.{rules, ◌≡◌, refl, sym, ap, ◌∙◌, subst}
use Rattle.std.specs.Prelude.{IsSome}
use Rattle.turn_lock.proofs.Hands.{of_some, in_hand, found_in_hand, left_in_hand}
use Rattle.turn_lock.proofs.Turning.{takes_value_at, lends_at}
use Rattle.turn_lock.proofs.turns.Turns.lend.Goals as goal

pub load-requires : goal.load-requires
load-requires g c = (search rules, search rules, takes_value_at _ _ _ _ _ _ _ c.requires.up.0 c.requires.up.1 c.requires.up.2)

pub exchange-slot-requires : goal.exchange-slot-requires
exchange-slot-requires g c = let t = c.load.ensures.2 c.requires.up.0 c.requires.up.1 c.requires.up.2 in (search rules, in_hand _ _ _ t.1)

pub load-requires-2 : goal.load-requires-2
load-requires-2 g c = let t = c.load.ensures.2 c.requires.up.0 c.requires.up.1 c.requires.up.2 in (
  search rules,
  search rules,
  lends_at _ _ _ _ _ _ _ c.requires.up.0 c.requires.up.1
      (left_in_hand c.load.new.seat.me c.exchange-slot.new.seat.me _ _ _ t.1 c.exchange-slot.ensures.3),
)

pub unwrap-requires : goal.unwrap-requires
unwrap-requires g c =
    let t = c.load.ensures.2 c.requires.up.0 c.requires.up.1 c.requires.up.2 in
    subst IsSome (found_in_hand c.load.new.seat.me _ _ _ t.1 c.exchange-slot.ensures.2) refl

pub returns-clause-lends : goal.returns-clause-lends
returns-clause-lends g c x a e = let t = c.load.ensures.2 x a e in let found = found_in_hand c.load.new.seat.me _ _ _ t.1 c.exchange-slot.ensures.2 in
    let same : t.0 ≡ c.unwrap.result = of_some (found ∙ c.unwrap.ensures) in (
      c.load-2.ensures.2 x a (left_in_hand c.load.new.seat.me c.exchange-slot.new.seat.me _ _ _ t.1 c.exchange-slot.ensures.3),
      sym (ap g.V.History.entries same) ∙ t.2,
      sym (ap g.V.History.base same) ∙ t.3,
    )
