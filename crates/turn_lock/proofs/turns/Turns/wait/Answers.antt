use Rattle.std.proofs.Common.{rules, sym, ◌∙◌}
use Rattle.turn_lock.proofs.Knowing.{knows_itself, knows_on}
use Rattle.turn_lock.proofs.Turning.{draws_at, looks_at}
use Rattle.turn_lock.proofs.turns.Turns.wait.Goals as goal

pub fetch_add-ticket-requires : goal.fetch_add-ticket-requires
fetch_add-ticket-requires g c = (search rules, search rules, draws_at _ _ _ _ _ _ _ c.requires.one.0 c.requires.one.1)

pub load-serving-requires : goal.load-serving-requires
load-serving-requires g c = let w = c.loop.invariant.1 c.requires.one.0 c.requires.one.1 in (search rules, search rules, looks_at _ _ _ _ _ _ _ w.0 w.1 w.4)

pub loop-init : goal.loop-init
loop-init g c = (c.fetch_add-ticket.ensures.0, λ a e. let d = c.fetch_add-ticket.ensures.2 a e in (d.0, a, knows_itself a, d.2, d.1))

pub loop-preserved : goal.loop-preserved
loop-preserved g c = (
  c.load-serving.ensures.0 ∙ c.loop.invariant.0,
  λ a e. let w = c.loop.invariant.1 a e in let l = c.load-serving.ensures.2 w.0 w.1 w.4 in
      (w.0, l.0, knows_on a w.1 l.0 w.2 l.1, w.3, l.4 (λ h. c.if-serving-ticket.false (sym h ∙ w.3))),
)

pub returns-then-serving-ticket-clause-waited : goal.returns-then-serving-ticket-clause-waited
returns-then-serving-ticket-clause-waited g c a e =
    let w = c.loop.invariant.1 a e in let l = c.load-serving.ensures.2 w.0 w.1 w.4 in
    (w.0, l.0, knows_on a w.1 l.0 w.2 l.1, l.2, l.3 (w.3 ∙ sym c.if-serving-ticket.true))
