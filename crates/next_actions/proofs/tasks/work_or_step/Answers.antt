use Rattle.next_actions.proofs.tasks.work_or_step.Goals as goal

pub returns-in-None-clause-suits : goal.returns-in-None-clause-suits
returns-in-None-clause-suits g c = λ live. c.end_of_list.ensures.suits c.args.row.now live
