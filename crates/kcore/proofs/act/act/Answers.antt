use Rattle.std.proofs.Common.{◌≡◌, refl, subst, sym}
use Rattle.machine.specs.declared.decision.Decision.{Decision}
use Rattle.machine.specs.Bodies.{run_body}
use Rattle.machine.specs.Dooms.{end}
use Rattle.machine.specs.Rows.{thread_of}
use Rattle.machine.specs.Steps.{decision_of}
use Rattle.kernel_tables.specs.Performed.{ActionGoes}
use Rattle.kernel_tables.specs.StateOf.{state_of}
use Rattle.kernel_tables.proofs.GoingActions.{able_goes}
use Rattle.kcore.specs.Told.{told_in}
use Rattle.kcore.proofs.ActionsDone.{does_as}
use Rattle.kcore.proofs.Alone.{may_act_able}
use Rattle.kcore.proofs.DeathRows.{may_end, may_reap}
use Rattle.kcore.proofs.act.act.Goals as goal

pub next_action-requires-clause-able : goal.next_action-requires-clause-able
next_action-requires-clause-able g c = may_act_able c.args.script.now (state_of c.core.inside.tables) c.args.thread (rw (← c.core.view_is) at c.requires.able)

pub carry_out-requires-clause-goes : goal.carry_out-requires-clause-goes
carry_out-requires-clause-goes g c =
    let is = rw c.in-Decided.is at c.next_action.ensures.decided in
    rw is (rw (← c.core.view_is) at (able_goes c.args.script.now c.args.core.now.state c.args.thread
    c.requires.runs.shaped c.requires.runs.rows c.requires.able))

pub run_body-requires-clause-goes : goal.run_body-requires-clause-goes
run_body-requires-clause-goes g c =
    let script = c.args.script.now in
    let t = c.args.thread in
    let X = state_of c.core.inside.tables in
    let is : run_body script t X c.in-Runs.body ≡ decision_of script X t = rw c.in-Runs.is at c.next_action.ensures.decided in
    subst (λ (d : Decision). ActionGoes script t d.moves X) (sym is)
    (rw (← c.core.view_is) at (able_goes script c.args.core.now.state t c.requires.runs.shaped c.requires.runs.rows
    c.requires.able))

pub reap-requires-clause-dying : goal.reap-requires-clause-dying
reap-requires-clause-dying g c =
    let X = state_of c.core.inside.tables in
    may_reap c.args.script.now X c.args.thread (thread_of X c.args.thread) refl
    (rw (← c.core.view_is) at c.requires.able) (rw c.in-Dies.is at c.next_action.ensures.suits)

pub end-requires-clause-may : goal.end-requires-clause-may
end-requires-clause-may g c =
    let X = state_of c.core.inside.tables in
    may_end c.args.script.now X c.args.thread (thread_of X c.args.thread) refl
    (rw (← c.core.view_is) at c.requires.able) (rw c.in-Ends.is at c.next_action.ensures.suits)

pub bury-requires-clause-may : goal.bury-requires-clause-may
bury-requires-clause-may g c = record { able = rw (← c.core.view_is) at c.requires.able; next = rw c.in-Buries.is at c.next_action.ensures.step }

pub step-requires-clause-at : goal.step-requires-clause-at
step-requires-clause-at g c = record { able = rw (← c.core.view_is) at c.requires.able; next = rw c.in-Steps.is at c.next_action.ensures.step }

-- what is done is what the thread decides
pub returns-in-Decided-clause-does : goal.returns-in-Decided-clause-does
returns-in-Decided-clause-does g c = rw (← c.core.view_is) (rw (rw c.in-Decided.is at c.next_action.ensures.decided) at c.carry_out.ensures.does)

pub returns-in-Runs-clause-does : goal.returns-in-Runs-clause-does
returns-in-Runs-clause-does g c =
    let script = c.args.script.now in
    let t = c.args.thread in
    let X = state_of c.core.inside.tables in
    let is : run_body script t X c.in-Runs.body ≡ decision_of script X t = rw c.in-Runs.is at c.next_action.ensures.decided in
    rw (← c.core.view_is) (does_as script t X c.run_body.new.core.state c.core.inside.ready c.run_body.new.core.ready
    (told_in c.run_body.new.entry) (run_body script t X c.in-Runs.body)
    (decision_of script X t) is c.run_body.ensures.does)

pub returns-in-Steps-clause-does : goal.returns-in-Steps-clause-does
returns-in-Steps-clause-does g c = rw (← c.core.view_is) (rw (rw c.in-Steps.is at c.next_action.ensures.decided) at c.step.ensures.does)

pub returns-in-Ends-clause-does : goal.returns-in-Ends-clause-does
returns-in-Ends-clause-does g c =
    let script = c.args.script.now in
    let t = c.args.thread in
    let X = state_of c.core.inside.tables in
    let is : end t ≡ decision_of script X t = rw c.in-Ends.is at c.next_action.ensures.decided in
    rw (← c.core.view_is) (does_as script t X c.end.new.core.state c.core.inside.ready c.end.new.core.ready
    (told_in c.end.new.entry) (end t) (decision_of script X t) is c.end.ensures.does)

pub returns-in-Dies-clause-does : goal.returns-in-Dies-clause-does
returns-in-Dies-clause-does g c = rw (← c.core.view_is) c.reap.ensures.does

pub returns-in-Buries-clause-does : goal.returns-in-Buries-clause-does
returns-in-Buries-clause-does g c = rw (← c.core.view_is) c.bury.ensures.does

-- the choice is open still
pub carry_out-requires-clause-may : goal.carry_out-requires-clause-may
carry_out-requires-clause-may g c = rw (← c.core.view_is) at c.requires.may

pub run_body-requires-clause-may : goal.run_body-requires-clause-may
run_body-requires-clause-may g c = rw (← c.core.view_is) at c.requires.may

pub step-requires-clause-may : goal.step-requires-clause-may
step-requires-clause-may g c = rw (← c.core.view_is) at c.requires.may

pub reap-requires-clause-may_choose : goal.reap-requires-clause-may_choose
reap-requires-clause-may_choose g c = rw (← c.core.view_is) at c.requires.may

pub end-requires-clause-may_choose : goal.end-requires-clause-may_choose
end-requires-clause-may_choose g c = rw (← c.core.view_is) at c.requires.may

pub bury-requires-clause-may_choose : goal.bury-requires-clause-may_choose
bury-requires-clause-may_choose g c = rw (← c.core.view_is) at c.requires.may
