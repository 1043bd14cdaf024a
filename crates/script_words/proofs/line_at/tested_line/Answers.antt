use Rattle.std.proofs.Common.{rules, tests}
use Rattle.script_types.specs.declared.keyword.Keyword.TheVariants as key
use Rattle.script_words.proofs.FormPlaces.{at_keyword}
use Rattle.script_words.proofs.line_at.tested_line.Goals as goal

pub returns-in-Pool : goal.returns-in-Pool
returns-in-Pool c = at_keyword key.Pool _ _ c.in-Pool.is (search (rules, tests))

pub returns-in-Fast : goal.returns-in-Fast
returns-in-Fast c = at_keyword key.Fast _ _ c.in-Fast.is (search (rules, tests))

pub returns-in-Dfcq : goal.returns-in-Dfcq
returns-in-Dfcq c = at_keyword key.Dfcq _ _ c.in-Dfcq.is (search (rules, tests))

pub returns-in-Process : goal.returns-in-Process
returns-in-Process c = at_keyword key.Process _ _ c.in-Process.is (search (rules, tests))

pub returns-in-Go : goal.returns-in-Go
returns-in-Go c = at_keyword key.Go _ _ c.in-Go.is (search (rules, tests))

pub returns-in-Eka2 : goal.returns-in-Eka2
returns-in-Eka2 c = at_keyword key.Eka2 _ _ c.in-Eka2.is (search (rules, tests))

pub returns-in-Schedule : goal.returns-in-Schedule
returns-in-Schedule c = at_keyword key.Schedule _ _ c.in-Schedule.is (search (rules, tests))

pub returns-in-Tick : goal.returns-in-Tick
returns-in-Tick c = at_keyword key.Tick _ _ c.in-Tick.is (search (rules, tests))

pub returns-in-End : goal.returns-in-End
returns-in-End c = at_keyword key.End _ _ c.in-End.is (search (rules, tests))
