use Rattle.std.proofs.Common.{◌≡◌, length}
use Rattle.std.proofs.lemmas.Bool.Decides.{nat_tests}
use Rattle.std.proofs.lemmas.List.{nil_from_length}
use Rattle.std.proofs.Common.{arith}
use Rattle.script_read.specs.Progress.{reading_of}
use Rattle.script_read.proofs.ProgressLaws.{read_to_start, read_to_end}
use Rattle.script_read.proofs.progress.read_text.Goals as goal

pub loop-rest-init : goal.loop-rest-init
loop-rest-init c = read_to_start c.args.text.now c.new-progress.result c.new-progress.ensures.context
    c.new-progress.ensures.steady c.new-progress.ensures.listed c.new-progress.ensures.text

pub returns : goal.returns
returns c =
    let none : length c.loop-rest.rest.now ≡ 0 = grind (arith, nat_tests) in
    read_to_end c.args.text.now c.loop-rest.rest.now c.loop-rest.number c.loop-rest.progress
    (reading_of c.end_lines.result) c.loop-rest.invariant
    (nil_from_length c.loop-rest.rest.now none) c.end_lines.ensures
