use Rattle.std.proofs.Common.{arith}
use Rattle.objects.proofs.Marks.{given_same, given_other}
use Rattle.objects.proofs.free.FreeNumbers.give.Goals as goal

pub returns-clause-free : goal.returns-clause-free
returns-clause-free c = given_same c.args.self.now.words c.args.number (omega (arith, c.args.self.now.sized))

pub returns-clause-others : goal.returns-clause-others
returns-clause-others c = λ i low apart. given_other c.args.self.now.words c.args.number i (omega (arith, c.args.self.now.sized)) apart
