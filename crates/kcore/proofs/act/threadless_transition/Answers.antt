use Rattle.state_rows.specs.Deferred.{next_immediate}
use Rattle.machine.specs.declared.plan.Body.TheVariants.{Interrupt}
use Rattle.machine.specs.declared.plan.Plan.TheVariants.{Runs}
use Rattle.machine.specs.declared.state.State.{State}
use Rattle.machine.specs.Bodies.{decision_by}
use Rattle.machine.specs.Interrupts.{immediate, immediate_plan, interrupt, supervisor}
use Rattle.machine_laws.proofs.Fitting.Interrupts.{sane-supervisor}
use Rattle.machine_laws.proofs.Reached.Choices.{body-same, plan-same}
use Rattle.kcore.specs.Told.{told_in}
use Rattle.kcore.proofs.ActionsDone.{idle_does, planned_does, tick_does}
use Rattle.kcore.proofs.act.threadless_transition.Goals as goal

pub interrupt-requires-clause-may : goal.interrupt-requires-clause-may
interrupt-requires-clause-may g c = rw c.in-Irq.is at c.requires.may

pub immediate-requires-clause-may : goal.immediate-requires-clause-may
immediate-requires-clause-may g c = rw c.in-Idfc.is at c.requires.may

pub returns-in-Tick-clause-does : goal.returns-in-Tick-clause-does
returns-in-Tick-clause-does g c =
    rw c.in-Tick.is (tick_does c.args.script.now c.args.core.now c.tick.new.core
    (told_in c.tick.new.entry) c.tick.ensures.state c.tick.ensures.queues c.tick.ensures.outcome)

pub returns-in-Irq-clause-does : goal.returns-in-Irq-clause-does
unfolding interrupt
returns-in-Irq-clause-does g c =
    let script = c.args.script.now in
    let old = c.args.core.now in
    let new = c.interrupt.new.core in
    let k = c.in-Irq.number in
    rw c.in-Irq.is (planned_does script supervisor old.state new.state old.ready new.ready
    (told_in c.interrupt.new.entry) (λ (S : State). decision_by script supervisor S (Runs (Interrupt k)))
    (body-same script supervisor old.state new.state.mode.keep (Interrupt k)
    (sane-supervisor script old.state c.requires.runs.rows)) c.interrupt.ensures.does)

pub returns-in-Idfc-clause-does : goal.returns-in-Idfc-clause-does
unfolding immediate
returns-in-Idfc-clause-does g c =
    let script = c.args.script.now in
    let old = c.args.core.now in
    let new = c.immediate.new.core in
    rw c.in-Idfc.is (planned_does script supervisor old.state new.state old.ready new.ready
    (told_in c.immediate.new.entry) (λ (S : State). decision_by script supervisor S
    (immediate_plan script S (next_immediate S.synchronization.deferred)))
    (plan-same script old.state new.state.mode.keep
    (next_immediate old.state.synchronization.deferred) c.requires.runs.rows) c.immediate.ensures.does)

pub returns-in-Idle-clause-does : goal.returns-in-Idle-clause-does
returns-in-Idle-clause-does g c = rw c.in-Idle.is (idle_does c.args.script.now c.args.core.now (told_in c.args.entry.now) c.requires.blank)

pub returns-in-Thread-clause-does : goal.returns-in-Thread-clause-does
returns-in-Thread-clause-does g c = absurd (rw c.in-Thread.is at c.requires.none)
