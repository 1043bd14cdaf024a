use Rattle.std.proofs.Common.{◌≡◌, true, ap, ◌∙◌}
use Rattle.script_types.specs.Context.{is_in_order}
use Rattle.script_types.specs.Keywords.{keyword_kind}
use Rattle.script_words.specs.LineSigns.{is_counted}
use Rattle.script_words.specs.Pieces.{pieces}
use Rattle.script_read.specs.Judging.{reason_of_fault}
use Rattle.script_read.specs.Reasons.{is_scheduled}
use Rattle.script_read.proofs.JudgedLines.{words_reason}
use Rattle.script_read.proofs.judge.reason_of_words.Goals as goal

pub returns : goal.returns
returns c =
    let context = c.args.context.now in
    let words = pieces c.args.words.now in
    let order : is_in_order context (keyword_kind (is_scheduled context) c.args.keyword) ≡ true = cc in
    let count : is_counted (is_scheduled context) c.args.keyword words ≡ true = cc in
    let fault = rw (c.second_of-second.ensures, c.is_scheduled-scheduled.ensures) at c.line_fault.ensures in
    c.reason_of_fault.ensures ∙ ap reason_of_fault fault ∙ words_reason context c.args.keyword words order count
