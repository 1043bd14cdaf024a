use Rattle.kernel_tables.proofs.GoingActions.{interrupt_goes}
use Rattle.kcore.proofs.interrupts.interrupt.Goals as goal

pub run_body-requires-clause-goes : goal.run_body-requires-clause-goes
run_body-requires-clause-goes g c = interrupt_goes c.args.script.now c.args.core.now.state c.args.number c.requires.runs.shaped c.requires.runs.rows
