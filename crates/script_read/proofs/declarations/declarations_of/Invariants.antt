use Rattle.std.proofs.Common.{length}
use Rattle.script_read.proofs.FileLines.{KnowsFront}
use Rattle.script_read.proofs.declarations.declarations_of.Given as goal
use Rattle.script_types.specs.Names.{file_declares}
use Rattle.script_types.specs.SourceText.{text_lines}

-- the lines before the rest are known
abbrev pub invariant-loop-rest : goal.invariant-loop-rest
invariant-loop-rest l = KnowsFront l.declarations (file_declares (text_lines l.rest)) (file_declares (text_lines l.fn.text))

abbrev pub decreases-loop-rest : goal.decreases-loop-rest
decreases-loop-rest l = length l.rest
