use Rattle.std.proofs.Common.{ap, arith, length}
use Rattle.std.proofs.lemmas.Fmt.{decimal_digit}
use Rattle.entry_log.proofs.Digits.{two_digits, length_two_digits}
use Rattle.entry_log.proofs.text.numbers.put_two_digits.Goals as goal

pub put_digit-requires-clause-room : goal.put_digit-requires-clause-room
put_digit-requires-clause-room c = omega (arith, c.requires.room, ap length (decimal_digit c.args.number c.if-number-lt10.true))

pub put_pair-requires-clause-room : goal.put_pair-requires-clause-room
put_pair-requires-clause-room c = omega (arith, c.requires.room, length_two_digits c.args.number c.if-number-lt10.false c.requires.digits)

pub returns : goal.returns
returns c = rw (two_digits c.args.number c.if-number-lt10.false c.requires.digits) c.put_pair.ensures
