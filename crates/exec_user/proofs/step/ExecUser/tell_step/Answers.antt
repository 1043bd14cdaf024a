use Rattle.exec_user.proofs.Steps.{step_goes, step_registers, step_ranges}
use Rattle.exec_user.proofs.step.ExecUser.tell_step.Goals as goal

pub decide_step-requires-clause-registers : goal.decide_step-requires-clause-registers
decide_step-requires-clause-registers g c =
    step_registers c.args.script.now c.args.self.now.core.now.state c.args.t c.args.instr.now c.requires.runs.shaped
    c.requires.at

pub decide_step-requires-clause-ranges : goal.decide_step-requires-clause-ranges
decide_step-requires-clause-ranges g c =
    step_ranges c.args.script.now c.args.self.now.core.now.state c.args.t c.args.instr.now c.requires.runs.shaped
    c.requires.at

pub make-requires-clause-goes : goal.make-requires-clause-goes
make-requires-clause-goes g c =
    let goes = step_goes c.args.script.now c.args.self.now.core.now.state c.args.t c.args.instr.now c.requires.runs.shaped c.requires.runs.rows c.requires.at in
    rw c.decide_step.ensures (rw (← c.core.view_is) at goes)

pub make-requires-clause-may : goal.make-requires-clause-may
make-requires-clause-may g c = rw (← c.core.view_is) at c.requires.may
