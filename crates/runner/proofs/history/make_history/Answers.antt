use Rattle.runner.proofs.Alone.{has-run}
use Rattle.runner.proofs.history.make_history.Goals as goal

pub returns : goal.returns
returns c = has-run c.args.script _ c.after_run.ensures.script c.after_run.ensures.history c.after_run.ensures.mode
