use Rattle.std.proofs.Common.{◌≡◌, ◌<◌, ◌∙◌, length, sym, arith}
use Rattle.std.proofs.lemmas.Bool.Decides.{nat_tests}
use Rattle.script_read.proofs.FirstWords.{word_found, word_skipped, word_last, no_word}
use Rattle.script_read.proofs.first_words.first_word.Goals as goal

pub returns-then-not-is_empty : goal.returns-then-not-is_empty
returns-then-not-is_empty c =
    let some : 0 < length c.in-Some.word.now = grind (arith, nat_tests) in
    sym c.loop-word.invariant ∙ word_found c.loop-word.rest.now c.in-Some.word.now c.in-Some.after.now c.in-Some.ensures.parts some

pub loop-word-preserved : goal.loop-word-preserved
loop-word-preserved c =
    let none : length c.in-Some.word.now ≡ 0 = grind (arith, nat_tests) in
    word_skipped c.loop-word.rest.now c.in-Some.word.now c.in-Some.after.now c.in-Some.ensures.parts none ∙ c.loop-word.invariant

pub returns-then-is_empty : goal.returns-then-is_empty
returns-then-is_empty c =
    let none : length c.loop-word.rest.now ≡ 0 = grind (arith, nat_tests) in
    sym c.loop-word.invariant ∙ no_word c.loop-word.rest.now c.in_default.ensures.parts none

pub returns-else-is_empty : goal.returns-else-is_empty
returns-else-is_empty c =
    let some : 0 < length c.loop-word.rest.now = grind (arith, nat_tests) in
    sym c.loop-word.invariant ∙ word_last c.loop-word.rest.now c.in_default.ensures.parts some
