use Rattle.kcore.proofs.going.slot_actor.Goals as goal

pub returns-in-Go : goal.returns-in-Go
returns-in-Go g c = λ qs are. rw c.in-Go.is (c.chosen.ensures qs are)
