use Rattle.next_actions.proofs.tasks.live.Goals as goal

pub returns-then-serves_queue-clause-suits : goal.returns-then-serves_queue-clause-suits
returns-then-serves_queue-clause-suits g c = λ live. c.serve.ensures.suits (g.R.Reads.state c.args.reads.now) c.args.thread c.args.row.now
