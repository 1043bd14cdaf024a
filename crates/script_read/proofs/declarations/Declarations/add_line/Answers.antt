use Rattle.std.proofs.Common.{◌∙◌, sym}
use Rattle.script_read.proofs.FileLines.{added_nothing}
use Rattle.script_types.specs.SourceText.{words_of}
use Rattle.script_read.proofs.declarations.Declarations.add_line.Goals as goal

pub returns-then-not-declares_something : goal.returns-then-not-declares_something
returns-then-not-declares_something c =
    added_nothing c.args.self.now c.args.line.now c.in-Some.first.now (words_of c.in-Some.rest.now) c.in-Some.ensures
    (sym c.declares_something.ensures ∙ c.if-not-declares_something.true)
