use Rattle.history_check.proofs.Stepping.{next_barred, next_made, no_actor, no_line}
use Rattle.history_check.proofs.step.next_entry.Goals as goal

pub returns-in_default-clause-bad : goal.returns-in_default-clause-bad
returns-in_default-clause-bad c = no_line c.args.plain.script c.args.plain.history c.args.text.now c.in_default.ensures.parts

pub returns-in_default-actor_of-clause-bad : goal.returns-in_default-actor_of-clause-bad
returns-in_default-actor_of-clause-bad c =
    no_actor c.args.plain.script c.args.plain.history c.args.text.now c.in-Some.line.now _ c.requires.valid
    c.in-Some.ensures.parts c.in_default-actor_of.ensures

pub returns-clause-next : goal.returns-clause-next
returns-clause-next c =
    next_made c.goes_on.result c.args.plain c.args.text.now c.in-Some.line.now _ c.in-Some-actor_of.actor c.tells_death.result
    c.requires.valid c.in-Some.ensures.parts c.in-Some-actor_of.ensures c.tells_death.ensures
    c.goes_on.ensures.script c.goes_on.ensures.entry c.goes_on.ensures.legal

pub returns-clause-bad : goal.returns-clause-bad
returns-clause-bad c =
    next_barred c.goes_on.result c.args.plain c.args.text.now c.in-Some.line.now _ c.in-Some-actor_of.actor
    c.requires.valid c.in-Some.ensures.parts c.in-Some-actor_of.ensures c.goes_on.ensures.refused
