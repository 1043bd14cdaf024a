use Rattle.script_words.proofs.SourceLines.{line_cut, line_alone}
use Rattle.script_words.proofs.source.first_line.Goals as goal

pub returns-in-Some-clause-lines : goal.returns-in-Some-clause-lines
returns-in-Some-clause-lines c = line_cut c.args.text.now c.in-Some.line.now c.in-Some.rest.now c.in-Some.ensures.parts

pub returns-in-None-clause-lines : goal.returns-in-None-clause-lines
returns-in-None-clause-lines c = line_alone c.args.text.now c.requires c.in-None.ensures.parts
