use Rattle.std.proofs.Common.{arith}
use Rattle.ready_list.proofs.Bits.{highest_set, none_above}
use Rattle.ready_list.proofs.mask.highest_bit.Goals as goal

pub returns-clause-set : goal.returns-clause-set
returns-clause-set c = highest_set c.args.mask (omega arith) (omega arith)

pub returns-clause-above : goal.returns-clause-above
returns-clause-above c = λ p above. none_above c.args.mask p (omega arith) (omega arith) above
