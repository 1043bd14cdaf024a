use Rattle.std.proofs.Common.{rules, tests}
use Rattle.script_print.proofs.print.put_thread.Goals as goal

pub returns-in-None-true : goal.returns-in-None-true
returns-in-None-true c = rw (c.in-None-true.is-0, c.in-None-true.is-1) (search (rules, tests))

pub returns-in-None-false : goal.returns-in-None-false
returns-in-None-false c = rw (c.in-None-false.is-0, c.in-None-false.is-1) (search (rules, tests))

pub returns-in-Some-true : goal.returns-in-Some-true
returns-in-Some-true c = rw (c.in-Some-true.is-0, c.in-Some-true.is-1) (search (rules, tests))

pub returns-in-Some-false : goal.returns-in-Some-false
returns-in-Some-false c = rw (c.in-Some-false.is-0, c.in-Some-false.is-1) (search (rules, tests))
