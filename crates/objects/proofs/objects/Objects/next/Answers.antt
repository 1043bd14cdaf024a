use Rattle.std.proofs.Common.{true, arith}
use Rattle.objects.proofs.Numbers.{least_is, next_is}
use Rattle.objects.proofs.objects.Objects.next.Goals as goal

pub returns-then-self-clause-number : goal.returns-then-self-clause-number
returns-then-self-clause-number g c =
    let kept = c.self.invariant.0 in
    let least = least_is c.self.inside.rows.items c.self.inside.free.words c.least.result kept.limited kept.marked
    c.least.ensures.within c.least.ensures.free c.least.ensures.below in
    rw (← c.self.view_is, c.if-self.true) least

pub returns-then-self-clause-within : goal.returns-then-self-clause-within
returns-then-self-clause-within g c =
    let kept = c.self.invariant.0 in
    let least = least_is c.self.inside.rows.items c.self.inside.free.words c.least.result kept.limited kept.marked
    c.least.ensures.within c.least.ensures.free c.least.ensures.below in
    rw (← c.self.view_is, least) (next_is true c.self.inside.rows.items).0

pub returns-else-self-clause-number : goal.returns-else-self-clause-number
returns-else-self-clause-number g c = rw (← c.self.view_is, c.if-self.false, c.len.ensures) (omega arith)
