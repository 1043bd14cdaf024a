use Rattle.std.proofs.Common.{◌∙◌, get_or, refl, arith}
use Rattle.descopy.proofs.Writing.{writing_begins, writing_ends, writing_goes_on}
use Rattle.descopy.proofs.bytes.write_bytes.Goals as goal

pub loop-k-init : goal.loop-k-init
loop-k-init c = writing_begins c.args.procs.now c.args.to.process c.args.to.at c.args.bytes.now

pub loop-k-preserved : goal.loop-k-preserved
loop-k-preserved c =
    writing_goes_on c.args.procs.now c.loop-k.procs c.set_byte.new.self c.args.to.process c.args.to.at c.loop-k.k
    (get_or c.args.bytes.now c.loop-k.k 0) c.args.bytes.now c.requires.process (omega arith)
    (omega arith) refl c.loop-k.invariant c.set_byte.ensures.after c.set_byte.ensures.size

pub returns : goal.returns
returns c = c.loop-k.invariant ∙ writing_ends c.args.procs.now c.args.to.process c.args.to.at c.loop-k.k c.args.bytes.now (omega arith)
