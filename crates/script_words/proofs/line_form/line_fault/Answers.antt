use Rattle.std.proofs.Common.{◌≡◌, ◌∙◌, drop, length, suc, sym, ap, add-one, List, Some}
use Rattle.script_types.specs.Forms.{operands_of, body_of}
use Rattle.script_types.specs.declared.operand.Operand.{Operand}
use Rattle.script_words.specs.LineSigns.{body_part}
use Rattle.script_words.specs.Pieces.{pieces}
use Rattle.script_words.proofs.WordFaults.{line_with}
use Rattle.script_words.proofs.line_form.line_fault.Goals as goal

pub returns-in-Some : goal.returns-in-Some
returns-in-Some c =
    let words = pieces c.args.words.now in
    let operands : c.operands_of-operands.result.now ≡ operands_of c.args.keyword c.args.second = c.operands_of-operands.ensures in
    let some : body_of c.args.keyword c.args.second ≡ Some c.in-Some.kind = sym c.in-Some.ensures in
    let fault = rw (c.words_behind.ensures, operands) at c.words_fault-fault.ensures in
    let part : pieces c.words_behind-body.result.now ≡ body_part (operands_of c.args.keyword c.args.second) words =
    rw add-one at c.words_behind-body.ensures ∙ ap (λ (os : List Operand). drop (suc (length os)) words) operands in
    let body = rw part at c.body_fault.ensures in
    c.both_faults.ensures ∙ rw (fault, body) (line_with c.args.keyword c.args.second words c.in-Some.kind some)
