use Rattle.std.proofs.Common.{arith}
use Rattle.objects.proofs.Marks.{taken_same, taken_other}
use Rattle.objects.proofs.free.FreeNumbers.take.Goals as goal

pub returns-clause-taken : goal.returns-clause-taken
returns-clause-taken c = taken_same c.args.self.now.words c.args.number (omega (arith, c.args.self.now.sized))

pub returns-clause-others : goal.returns-clause-others
returns-clause-others c = λ i low apart. taken_other c.args.self.now.words c.args.number i (omega (arith, c.args.self.now.sized)) apart
