use Rattle.std.proofs.Common.{sym, ◌∙◌}
use Rattle.history_check.proofs.Words.{tells_last, tells_more, tells_one}
use Rattle.history_check.proofs.actor.tells_death.Goals as goal

pub returns-then-is_death : goal.returns-then-is_death
returns-then-is_death c =
    tells_one c.loop-word.rest.now c.in-Some.word.now c.in-Some.behind.now c.in-Some.ensures.parts
    (sym c.is_death.ensures ∙ c.if-is_death.true)
    ∙ c.loop-word.invariant

pub loop-word-preserved : goal.loop-word-preserved
loop-word-preserved c =
    tells_more c.loop-word.rest.now c.in-Some.word.now c.in-Some.behind.now c.in-Some.ensures.parts
    (sym c.is_death.ensures ∙ c.if-is_death.false)
    ∙ c.loop-word.invariant

pub returns : goal.returns
returns c = c.is_death-2.ensures ∙ tells_last c.loop-word.rest.now c.in_default.ensures.parts ∙ c.loop-word.invariant
