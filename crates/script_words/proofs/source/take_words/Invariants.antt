use Rattle.std.proofs.Common.{◌≡◌, ◌++◌, length}
use Rattle.script_words.specs.Pieces.{pieces}
use Rattle.script_words.proofs.source.take_words.Given as goal
use Rattle.script_types.specs.SourceText.{words_of}

-- the words so far, and those of the rest
abbrev pub invariant-loop-word : goal.invariant-loop-word
invariant-loop-word l = pieces l.words.items ++ words_of l.rest ≡ words_of l.fn.line

abbrev pub decreases-loop-word : goal.decreases-loop-word
decreases-loop-word l = length l.rest
