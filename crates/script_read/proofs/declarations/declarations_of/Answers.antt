use Rattle.std.proofs.Common.{◌≡◌, length, arith}
use Rattle.std.proofs.lemmas.Bool.Decides.{nat_tests}
use Rattle.script_read.proofs.FileLines.{front_end}
use Rattle.script_read.proofs.declarations.declarations_of.Goals as goal
use Rattle.script_types.specs.Names.{file_declares}
use Rattle.script_types.specs.SourceText.{text_lines}

pub returns : goal.returns
returns c =
    let none : length c.loop-rest.rest.now ≡ 0 = grind (arith, nat_tests) in
    front_end c.loop-rest.declarations c.loop-rest.rest.now (file_declares (text_lines c.args.text.now)) none c.loop-rest.invariant
