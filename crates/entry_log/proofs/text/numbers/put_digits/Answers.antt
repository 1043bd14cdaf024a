use Rattle.std.proofs.Common.{◌/◌, arith, append_assoc, length, length-append, ap}
use Rattle.entry_log.proofs.Digits.{digits_and_pair, length_digits_and_pair}
use Rattle.std.specs.Fmt.{decimal}
use Rattle.entry_log.proofs.text.numbers.put_digits.Goals as goal

pub put_four_digits-requires-then-number-lt1000000-clause-room : goal.put_four_digits-requires-then-number-lt1000000-clause-room
put_four_digits-requires-then-number-lt1000000-clause-room c = omega (arith, c.requires, length_digits_and_pair c.args.number (omega arith) (omega arith))

pub put_pair-requires-clause-room : goal.put_pair-requires-clause-room
put_pair-requires-clause-room c =
    omega (
      arith,
      c.requires,
      length_digits_and_pair c.args.number (omega arith) (omega arith),
      ap length c.put_four_digits-then-number-lt1000000.ensures,
      length-append c.args.line.now.items (decimal (c.args.number / 100)),
    )

pub returns-then-number-lt1000000 : goal.returns-then-number-lt1000000
returns-then-number-lt1000000 c =
    simp (
      digits_and_pair c.args.number (omega arith) (omega arith),
      append_assoc,
      c.put_pair.ensures,
      c.put_four_digits-then-number-lt1000000.ensures,
    )

pub put_six_digits-requires-clause-room : goal.put_six_digits-requires-clause-room
put_six_digits-requires-clause-room c = omega (arith, c.requires, length_digits_and_pair c.args.number (omega arith) (omega arith))

pub put_pair-requires-then-number-lt100000000-clause-room : goal.put_pair-requires-then-number-lt100000000-clause-room
put_pair-requires-then-number-lt100000000-clause-room c =
    omega (
      arith,
      c.requires,
      length_digits_and_pair c.args.number (omega arith) (omega arith),
      ap length c.put_six_digits.ensures,
      length-append c.args.line.now.items (decimal (c.args.number / 100)),
    )

pub returns-then-number-lt100000000 : goal.returns-then-number-lt100000000
returns-then-number-lt100000000 c =
    simp (
      digits_and_pair c.args.number (omega arith) (omega arith),
      append_assoc,
      c.put_pair-then-number-lt100000000.ensures,
      c.put_six_digits.ensures,
    )

pub put_eight_digits-requires-clause-room : goal.put_eight_digits-requires-clause-room
put_eight_digits-requires-clause-room c = omega (arith, c.requires, length_digits_and_pair c.args.number (omega arith) (omega (arith, c.ranges.number.fits)))

pub put_pair-requires-else-number-lt100000000-clause-room : goal.put_pair-requires-else-number-lt100000000-clause-room
put_pair-requires-else-number-lt100000000-clause-room c =
    omega (
      arith,
      c.requires,
      length_digits_and_pair c.args.number (omega arith) (omega (arith, c.ranges.number.fits)),
      ap length c.put_eight_digits.ensures,
      length-append c.args.line.now.items (decimal (c.args.number / 100)),
    )

pub returns-else-number-lt100000000 : goal.returns-else-number-lt100000000
returns-else-number-lt100000000 c =
    simp (
      digits_and_pair c.args.number (omega arith) (omega (arith, c.ranges.number.fits)),
      append_assoc,
      c.put_pair-else-number-lt100000000.ensures,
      c.put_eight_digits.ensures,
    )
