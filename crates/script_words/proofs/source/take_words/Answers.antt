use Rattle.script_words.specs.Pieces.{pieces}
use Rattle.script_words.proofs.SourceLines.{words_more, words_end}
use Rattle.script_words.proofs.source.take_words.Goals as goal
use Rattle.script_types.specs.SourceText.{words_of}

pub loop-word-preserved : goal.loop-word-preserved
loop-word-preserved c =
    words_more (pieces c.push_word.new.words.items)
    (pieces c.loop-word.words.items) c.in-Some.word.now c.loop-word.rest.now c.in-Some.after.now
    (words_of c.args.line.now) c.in_ok-push_word.ensures c.in-Some.ensures.parts c.loop-word.invariant

pub returns : goal.returns
returns c =
    words_end (pieces c.push_word-2.new.words.items) (pieces c.loop-word.words.items) c.loop-word.rest.now
    (words_of c.args.line.now) c.in_ok-push_word-2.ensures c.in_default.ensures.parts c.loop-word.invariant
