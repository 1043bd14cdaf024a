use Rattle.std.proofs.Common.{◌≤◌, arith, length, length-append, ap, w32, rules, FitsSigned}
use Rattle.std.proofs.Math.Facts.{to_z-of_z}
use Rattle.std.proofs.lemmas.Fmt.{length_signed_le}
use Rattle.std.specs.Fmt.{signed_decimal}
use Rattle.entry_log.proofs.text.numbers.put_code.Goals as goal

pub put_number-requires : goal.put_number-requires
put_number-requires c =
    let fits : FitsSigned w32 c.args.code = search rules in
    let h = c.ranges.code.sfits in
    let few : length (signed_decimal c.args.code) ≤ 11 = length_signed_le 10 c.args.code (omega arith) (omega arith) in
    rw (to_z-of_z fits) (omega (arith, c.requires, few))

pub returns-then-code-lt0-clause-short : goal.returns-then-code-lt0-clause-short
returns-then-code-lt0-clause-short c =
    let fits : FitsSigned w32 c.args.code = search rules in
    let h = c.ranges.code.sfits in
    let few : length (signed_decimal c.args.code) ≤ 11 = length_signed_le 10 c.args.code (omega arith) (omega arith) in
    let text = rw (to_z-of_z fits) at c.put_number.ensures in
    omega (arith, few, ap length text, length-append c.args.line.now.items (signed_decimal c.args.code))
