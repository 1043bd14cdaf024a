use Rattle.script_read.proofs.FirstBadLaws.{one_first_bad}
use Rattle.script_read.proofs.SourceLaws.{accepted_or_bad, accepted_not_bad, one_accepted}
use Rattle.script_read.proofs.law.accepted_or_bad.Goals as goal

pub returns-clause-some : goal.returns-clause-some
returns-clause-some c = accepted_or_bad c.args.bytes.now

pub returns-clause-not_both : goal.returns-clause-not_both
returns-clause-not_both c = λ script line why a b. accepted_not_bad c.args.bytes.now script line why a b

pub returns-clause-one_script : goal.returns-clause-one_script
returns-clause-one_script c = λ one other a b. one_accepted c.args.bytes.now one other a b

pub returns-clause-one_line : goal.returns-clause-one_line
returns-clause-one_line c = λ line other why because a b. one_first_bad c.args.bytes.now line other why because a b
