use Rattle.std.proofs.Common.{arith}
use Rattle.handles.proofs.Marks.{taken_same, taken_other}
use Rattle.handles.proofs.free.FreePlaces.take.Goals as goal

pub returns-clause-taken : goal.returns-clause-taken
returns-clause-taken c = taken_same c.args.self.now.words c.args.place (omega (arith, c.args.self.now.sized))

pub returns-clause-others : goal.returns-clause-others
returns-clause-others c = λ i low apart. taken_other c.args.self.now.words c.args.place i (omega (arith, c.args.self.now.sized)) apart
