use Rattle.history_check.proofs.Actors.{first_there, second_there, second_word}
use Rattle.history_check.proofs.actor.actor_of.Goals as goal

pub returns-in_default : goal.returns-in_default
returns-in_default c = λ actor is. absurd (first_there c.args.line.now actor is c.in_default.ensures.parts)

pub returns-in-Some-cut : goal.returns-in-Some-cut
returns-in-Some-cut c =
    λ actor is. c.read_actor.ensures actor is.known
    (second_word c.args.line.now _ c.in-Some.behind.now c.in-Some-cut.word.now _ actor is c.in-Some.ensures.parts
    c.in-Some-cut.ensures.parts)

pub returns-in-None : goal.returns-in-None
returns-in-None c = λ actor is. absurd (second_there c.args.line.now _ c.in-Some.behind.now actor is c.in-Some.ensures.parts c.in-None.ensures.parts)
