use Rattle.std.proofs.Common.{arith}
use Rattle.script_words.proofs.Cuts.{nowhere_far, cut_far}
use Rattle.script_words.proofs.field.cut_far.Goals as goal

pub returns-in-Some-clause-parts : goal.returns-in-Some-clause-parts
returns-in-Some-clause-parts c =
    let first = c.in-Some.ensures in
    cut_far c.args.at c.args.bytes.now c.in-Some.place first.0.high first.1 (λ k lt is. first.0.before k (omega arith) lt is)

pub returns-in-None-clause-parts : goal.returns-in-None-clause-parts
returns-in-None-clause-parts c =
    let others = c.in-None.ensures in
    nowhere_far c.args.at c.args.bytes.now (λ k lt is. others k (omega arith) lt is)
