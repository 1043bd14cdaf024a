use Rattle.std.proofs.Common.{arith, length, length-append, ap}
use Rattle.std.proofs.lemmas.Fmt.{length-decimal-le}
use Rattle.std.specs.Fmt.{decimal}
use Rattle.entry_log.proofs.text.numbers.put_u16.Goals as goal

pub put_digits-requires : goal.put_digits-requires
put_digits-requires c =
    omega (
      arith,
      c.requires,
      c.ranges.number.fits,
      length-decimal-le 5 c.args.number (omega arith) (omega (arith, c.ranges.number.fits))
          (omega (arith, c.ranges.number.fits)),
    )

pub returns-clause-short : goal.returns-clause-short
returns-clause-short c =
    omega (
      arith,
      c.ranges.number.fits,
      ap length c.put_digits.ensures,
      length-append c.args.line.now.items (decimal c.args.number),
      length-decimal-le 5 c.args.number (omega arith) (omega (arith, c.ranges.number.fits))
          (omega (arith, c.ranges.number.fits)),
    )
