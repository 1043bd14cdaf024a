use Rattle.machine.specs.declared.state.State.{State}
use Rattle.machine.specs.Out.{is_out}
use Rattle.machine.specs.Steps.{decision_of}
use Rattle.machine.specs.Task.{is_able}
use Rattle.machine.specs.Transition.{act}
use Rattle.machine_laws.proofs.Reached.Choices.{decision-same}
use Rattle.kcore.specs.Told.{told_in}
use Rattle.kcore.proofs.Alone.{able_or}
use Rattle.kcore.proofs.ActionsDone.{planned_does}
use Rattle.kcore.proofs.act.transition.Goals as goal

pub act-requires-clause-able : goal.act-requires-clause-able
act-requires-clause-able g c =
    let S = c.args.core.now.state in
    let t = c.in-Thread.thread in
    able_or (is_able c.args.script.now S t) (is_out S t) (rw c.in-Thread.is at c.requires.stays) (rw c.in-Thread.is at c.requires.can)

pub act-requires-clause-may : goal.act-requires-clause-may
act-requires-clause-may g c = rw c.in-Thread.is at c.requires.may

pub returns-in-Thread-clause-does : goal.returns-in-Thread-clause-does
unfolding act
returns-in-Thread-clause-does g c =
    let script = c.args.script.now in
    let old = c.args.core.now in
    let new = c.act.new.core in
    let t = c.in-Thread.thread in
    rw c.in-Thread.is (planned_does script t old.state new.state old.ready new.ready (told_in c.act.new.entry)
    (λ (S : State). decision_of script S t)
    (decision-same script old.state t new.state.mode.keep c.requires.runs.shaped c.requires.runs.rows)
    c.act.ensures.does)
