use Rattle.script_words.proofs.Numbers.{IsDigitsSo}
use Rattle.script_words.proofs.field.read_digits.Given as goal

-- the number of the digits so far
abbrev pub invariant-loop-i : goal.invariant-loop-i
invariant-loop-i l = IsDigitsSo l.fn.max l.fn.digits l.i l.number
