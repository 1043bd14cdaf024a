use Rattle.std.proofs.Common.{◌+◌, ◌<◌, ◌^◌, get_or, arith}
use Rattle.handles.proofs.Marks.{first_clear, set_before, set_below}
use Rattle.handles.proofs.free.FreePlaces.least_taken.Goals as goal

pub returns-then-word-clause-taken : goal.returns-then-word-clause-taken
returns-then-word-clause-taken c =
    let some : get_or c.args.self.now.words c.loop-place.place 0 + 1 < 2 ^ 64 = omega arith in
    rw c.trailing_ones.ensures (λ _. (first_clear c.args.self.now.words c.loop-place.place some).1)

pub returns-then-word-clause-below : goal.returns-then-word-clause-below
returns-then-word-clause-below c =
    let some : get_or c.args.self.now.words c.loop-place.place 0 + 1 < 2 ^ 64 = omega arith in
    rw c.trailing_ones.ensures (set_before c.args.self.now.words c.loop-place.place some c.loop-place.invariant)

pub returns-clause-below : goal.returns-clause-below
returns-clause-below c = λ i low. set_below c.args.self.now.words c.loop-place.place i c.loop-place.invariant (omega arith)
