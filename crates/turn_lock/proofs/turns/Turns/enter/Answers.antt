use Rattle.std.proofs.Common.{rules, sym, ap, ◌∙◌}
use Rattle.turn_lock.specs.Log.{entries_of}
use Rattle.turn_lock.proofs.Passing.{lifted, put_back, entered}
use Rattle.turn_lock.proofs.turns.Turns.enter.Goals as goal

pub wait-requires-clause-one : goal.wait-requires-clause-one
wait-requires-clause-one g c = (_, lifted _ _ _ c.lift-seat.ensures.1 c.lift-seat.ensures.2 c.requires.views)

pub lend-value-requires-clause-up : goal.lend-value-requires-clause-up
lend-value-requires-clause-up g c =
    let w = c.wait.ensures.waited _ (lifted _ _ _ c.lift-seat.ensures.1 c.lift-seat.ensures.2 c.requires.views) in
    (w.0, w.1, w.4)

pub into_badge-requires : goal.into_badge-requires
into_badge-requires g c =
    let w = c.wait.ensures.waited _ (lifted _ _ _ c.lift-seat.ensures.1 c.lift-seat.ensures.2 c.requires.views) in
    let l = c.lend-value.ensures.lends w.0 w.1 w.4 in
    ap (λ m. m.1) l.0

pub returns : goal.returns
returns g c =
    let w = c.wait.ensures.waited _ (lifted _ _ _ c.lift-seat.ensures.1 c.lift-seat.ensures.2 c.requires.views) in
    let l = c.lend-value.ensures.lends w.0 w.1 w.4 in
    let e = entered c.args.self.now c.args.pass.now (record { badge = c.into_badge.result }) w.1 w.0 w.2 w.3
    (search rules) (put_back c.lend-value.new.seat.me _ _ c.into_badge.ensures.2 l.0) in
    record {
      turn = e.turn;
      caller = e.caller;
      known = e.known;
      own = e.own;
      made = e.made;
      list = l.1 ∙ ap entries_of (sym e.shown);
      base = l.2 ∙ e.base;
    }
