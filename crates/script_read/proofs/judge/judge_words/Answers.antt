use Rattle.std.proofs.Common.{sym}
use Rattle.script_words.specs.LineSigns.{have_forms, are_in_range}
use Rattle.script_words.specs.Pieces.{pieces}
use Rattle.script_words.proofs.WordFaults.{right}
use Rattle.script_read.specs.Reasons.{is_scheduled}
use Rattle.script_read.proofs.JudgedLines.{words_pass}
use Rattle.script_read.proofs.judge.judge_words.Goals as goal

pub line_as-requires : goal.line_as-requires
line_as-requires c =
    let scheduled = is_scheduled c.args.context.now in
    let words = pieces c.args.words.now in
    let pass = words_pass c.args.context.now c.args.keyword words c.in_default.ensures in
    rw (c.second_of-second.ensures, c.is_scheduled.ensures)
    (sym (right (have_forms scheduled c.args.keyword words)
    (are_in_range scheduled c.args.keyword words) pass.0 pass.1))
