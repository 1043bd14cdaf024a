use Rattle.std.proofs.Common.{◌≡◌, length}
use Rattle.script_types.specs.SourceText.{words_of}
use Rattle.script_read.proofs.first_words.first_word.Given as goal

-- the words are those of the rest
abbrev pub invariant-loop-word : goal.invariant-loop-word
invariant-loop-word l = words_of l.rest ≡ words_of l.fn.line

abbrev pub decreases-loop-word : goal.decreases-loop-word
decreases-loop-word l = length l.rest
