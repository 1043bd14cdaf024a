use Rattle.std.proofs.Common.{◌∙◌}
use Rattle.cleanup.proofs.Places.{spared_duties, popped_duties, known_thread}
use Rattle.cleanup.proofs.duties.Duties.take_first.Goals as goal

pub returns-clause-taken : goal.returns-clause-taken
returns-clause-taken c =
    let known = rw (← c.self.view_is) at c.requires in
    let low = known_thread c.self.inside.threads c.args.t.0 c.self.inside.links c.self.inside.rows.items known in
    rw (← c.self.view_is, c.push_back.ensures)
    (spared_duties c.self.inside.threads c.args.t.0 c.in_ok-node.node c.pop_front.new.self c.self.inside.rows.items
    ∙ rw c.pop_front.ensures.popped (popped_duties c.self.inside.threads c.args.t.0 c.self.inside.links
    c.self.inside.rows.items low))
