use Rattle.std.proofs.Common.{◌≡◌, ◌<◌, ◌∙◌, length, sym, arith}
use Rattle.std.proofs.lemmas.Bool.Decides.{nat_tests}
use Rattle.history_check.proofs.Words.{end_behind, end_is, end_isnt, end_last}
use Rattle.history_check.proofs.parts.is_end.Goals as goal

pub returns-then-is_word : goal.returns-then-is_word
returns-then-is_word c =
    let some : 0 < length c.in-Some.word.now = grind (arith, nat_tests) in
    c.is_blank.ensures
    ∙ end_is c.loop-word.rest.now c.in-Some.word.now c.in-Some.behind.now c.in-Some.ensures.parts some
    (sym c.is_word.ensures ∙ c.if-is_word.true)
    ∙ c.loop-word.invariant

pub returns-else-is_word : goal.returns-else-is_word
returns-else-is_word c =
    let some : 0 < length c.in-Some.word.now = grind (arith, nat_tests) in
    c.if-is_word.false
    ∙ end_isnt c.loop-word.rest.now c.in-Some.word.now c.in-Some.behind.now c.in-Some.ensures.parts some
    (sym c.is_word.ensures ∙ c.if-is_word.false)
    ∙ c.loop-word.invariant

pub loop-word-preserved : goal.loop-word-preserved
loop-word-preserved c =
    let none : length c.in-Some.word.now ≡ 0 = grind (arith, nat_tests) in
    end_behind c.loop-word.rest.now c.in-Some.word.now c.in-Some.behind.now c.in-Some.ensures.parts none ∙ c.loop-word.invariant

pub returns : goal.returns
returns c = c.is_word-2.ensures ∙ end_last c.loop-word.rest.now c.in_default.ensures.parts ∙ c.loop-word.invariant
