use Rattle.std.proofs.Common.{get_or, refl}
use Rattle.script_words.proofs.Numbers.{digits_more}
use Rattle.script_words.proofs.field.read_digits.Goals as goal

pub loop-i-preserved : goal.loop-i-preserved
loop-i-preserved c =
    digits_more c.args.max c.args.digits.now c.loop-i.i c.loop-i.number
    (get_or c.args.digits.now c.loop-i.i 0) c.in-Some.more c.loop-i.invariant c.loop-i-test.true refl c.in-Some.ensures
