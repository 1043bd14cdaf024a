use Rattle.std.proofs.Common.{◌/◌, arith, append_assoc, length, length-append, ap}
use Rattle.entry_log.proofs.Digits.{digits_and_pair, length_digits_and_pair}
use Rattle.std.specs.Fmt.{decimal}
use Rattle.entry_log.proofs.text.numbers.put_six_digits.Goals as goal

pub put_four_digits-requires-2-clause-room : goal.put_four_digits-requires-2-clause-room
put_four_digits-requires-2-clause-room c =
    omega (arith, c.requires.room, length_digits_and_pair c.args.number (omega (arith, c.if-number-lt10000.false)) (omega arith))

pub put_pair-requires-clause-room : goal.put_pair-requires-clause-room
put_pair-requires-clause-room c =
    omega (
      arith,
      c.requires.room,
      length_digits_and_pair c.args.number (omega (arith, c.if-number-lt10000.false)) (omega arith),
      ap length c.put_four_digits-2.ensures,
      length-append c.args.line.now.items (decimal (c.args.number / 100)),
    )

pub returns : goal.returns
returns c =
    simp (
      digits_and_pair c.args.number (omega (arith, c.if-number-lt10000.false)) (omega arith),
      append_assoc,
      c.put_pair.ensures,
      c.put_four_digits-2.ensures,
    )
