use Rattle.std.proofs.Common.{arith}
use Rattle.handles.proofs.Marks.{given_same, given_other}
use Rattle.handles.proofs.free.FreePlaces.give.Goals as goal

pub returns-clause-free : goal.returns-clause-free
returns-clause-free c = given_same c.args.self.now.words c.args.place (omega (arith, c.args.self.now.sized))

pub returns-clause-others : goal.returns-clause-others
returns-clause-others c = λ i low apart. given_other c.args.self.now.words c.args.place i (omega (arith, c.args.self.now.sized)) apart
