use Rattle.std.proofs.Common.{◌∙◌, sym}
use Rattle.script_words.proofs.Keywords.{begins_instr, begins_line}
use Rattle.script_words.proofs.keyword.keyword_of.Goals as goal

pub returns-in-Some : goal.returns-in-Some
returns-in-Some c = begins_instr c.args.word.now c.in-Some.instr (sym c.in-Some.is ∙ c.of.ensures)

pub returns-in-None : goal.returns-in-None
returns-in-None c = begins_line c.args.word.now c.line_keyword.result (sym c.in-None.is ∙ c.of.ensures) c.line_keyword.ensures
