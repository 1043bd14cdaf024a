use Rattle.std.proofs.Common.{◌<◌, ◌^◌, get_or, arith}
use Rattle.objects.proofs.Marks.{first_set, clear_before, clear_below}
use Rattle.objects.proofs.free.FreeNumbers.least.Goals as goal

pub returns-then-word-ne0-clause-free : goal.returns-then-word-ne0-clause-free
returns-then-word-ne0-clause-free c =
    let fits : get_or c.args.self.now.words c.loop-place.place 0 < 2 ^ 64 = omega arith in
    let found = first_set c.args.self.now.words c.loop-place.place c.if-word-ne0.true fits in
    λ _. found.1

pub returns-then-word-ne0-clause-below : goal.returns-then-word-ne0-clause-below
returns-then-word-ne0-clause-below c =
    let fits : get_or c.args.self.now.words c.loop-place.place 0 < 2 ^ 64 = omega arith in
    clear_before c.args.self.now.words c.loop-place.place c.if-word-ne0.true fits c.loop-place.invariant

pub returns-clause-below : goal.returns-clause-below
returns-clause-below c = λ i low. clear_below c.args.self.now.words c.loop-place.place i c.loop-place.invariant (omega arith)
