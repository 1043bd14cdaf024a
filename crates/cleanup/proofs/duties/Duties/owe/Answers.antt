use Rattle.std.proofs.Common.{◌<◌, length, arith}
use Rattle.cleanup.proofs.Places.{known_thread, owed_duties}
use Rattle.cleanup.proofs.duties.Duties.owe.Goals as goal

pub returns : goal.returns
returns c =
    let known = rw (← c.self.view_is) at c.requires.thread in
    let low = known_thread c.self.inside.threads c.args.t.0 c.self.inside.links c.self.inside.rows.items known in
    let below : c.in-Some.node < length c.self.inside.rows.items = omega (arith, c.self.invariant.nodes, c.in-Some.ensures.below) in
    rw (← c.self.view_is, c.push_back.ensures)
    (owed_duties c.self.inside.threads c.args.t.0 c.in-Some.node c.self.inside.links c.pop_front.new.self
    c.self.inside.rows.items c.args.what low below c.pop_front.ensures.popped c.in-Some.ensures.free)
