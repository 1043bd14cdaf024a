use Rattle.std.proofs.Common.{rules, sym, ap, ◌∙◌}
use Rattle.turn_lock.specs.Log.{gained}
use Rattle.turn_lock.specs.Passes.{known_of}
use Rattle.turn_lock.proofs.Logs.{begins_gained}
use Rattle.turn_lock.proofs.Passing.{lifted, put_back, left_with}
use Rattle.turn_lock.proofs.Turning.{publishes_at}
use Rattle.turn_lock.proofs.turns.Turns.leave.Goals as goal

pub give_back-requires-clause-may : goal.give_back-requires-clause-may
give_back-requires-clause-may g c = (
  gained (known_of c.args.pass.now) (g.V.History.entries c.args.turn.value),
  (
    c.requires.turn.ticket,
    _,
    lifted _ _ _ c.lift-seat.ensures.1 c.lift-seat.ensures.2 c.requires.turn.views,
    begins_gained (known_of c.args.pass.now) _ c.requires.grown,
    c.requires.base,
  ),
)

pub fetch_add-requires : goal.fetch_add-requires
fetch_add-requires g c = let e = lifted _ _ _ c.lift-seat.ensures.1 c.lift-seat.ensures.2 c.requires.turn.views in
    let left = c.give_back.ensures.returns c.requires.turn.ticket _ _ e (begins_gained (known_of c.args.pass.now) _ c.requires.grown) in
    (search rules, search rules, publishes_at _ _ _ _ _ _ _ c.requires.turn.ticket _ _ left)

pub into_badge-requires : goal.into_badge-requires
into_badge-requires g c = let e = lifted _ _ _ c.lift-seat.ensures.1 c.lift-seat.ensures.2 c.requires.turn.views in
    let left = c.give_back.ensures.returns c.requires.turn.ticket _ _ e (begins_gained (known_of c.args.pass.now) _ c.requires.grown) in
    ap (λ m. m.1) (c.fetch_add.ensures.2 c.requires.turn.ticket _ _ left).0

pub returns : goal.returns
returns g c = let e = lifted _ _ _ c.lift-seat.ensures.1 c.lift-seat.ensures.2 c.requires.turn.views in
    let grown = begins_gained (known_of c.args.pass.now) (g.V.History.entries c.args.turn.value) c.requires.grown in
    let left = c.give_back.ensures.returns c.requires.turn.ticket _ _ e grown in
    let published = c.fetch_add.ensures.2 c.requires.turn.ticket _ _ left in
    let out = left_with c.args.self.now c.args.pass.now (record { badge = c.into_badge.result })
    (gained (known_of c.args.pass.now) (g.V.History.entries c.args.turn.value)) (search rules)
    (put_back c.fetch_add.new.seat.me _ _ c.into_badge.ensures.2 published.0) published.1 in
    record { free = out.free; caller = out.caller; known = out.known; own = out.own; list = out.list ∙ sym grown; made = out.made }
