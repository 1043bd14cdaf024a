use Rattle.std.proofs.Common.{◌≡◌, ◌∙◌, Bool, true, false, refl, sym, arith}
use Rattle.deferred.proofs.Nodes.{ge-ltb}
use Rattle.deferred.proofs.Keeping.{move_queued, past_unqueued}
use Rattle.deferred.proofs.queues.Deferred.is_queued.Goals as goal

-- where one holds exactly where the other does
same : (a b : Bool) → (a ≡ true → b ≡ true) → (b ≡ true → a ≡ true) → a ≡ b
same true b there back = sym (there refl)
same false true there back = back refl
same false false there back = refl

pub returns-then-dfc-len : goal.returns-then-dfc-len
returns-then-dfc-len c =
    let linked = c.is_linked.ensures.linked in
    rw (← c.self.view_is) (same c.is_linked.result _ linked.0 linked.1
    ∙ sym (move_queued c.self.inside.idfcs c.self.inside.places.items c.self.inside.priorities.items c.self.inside.links
    c.self.invariant c.args.dfc (omega (arith, c.len.ensures, c.if-dfc-len.true))))

pub returns-else-dfc-len : goal.returns-else-dfc-len
returns-else-dfc-len c =
    rw (← c.self.view_is) (ge-ltb c.args.dfc c.len.result c.if-dfc-len.false
    ∙ sym (past_unqueued c.self.inside.idfcs c.self.inside.places.items c.self.inside.priorities.items
    c.self.inside.links c.self.invariant c.args.dfc (omega (arith, c.len.ensures, c.if-dfc-len.false))))
