use Rattle.script_read.proofs.ReadAnswers.{whole_is_accepted, whole_is_only, whole_is_not_bad, bad_is_first, bad_is_not_accepted, bad_is_only}
use Rattle.script_read.proofs.read.read_script.Goals as goal

pub returns-in-Ok-Whole-clause-answer : goal.returns-in-Ok-Whole-clause-answer
returns-in-Ok-Whole-clause-answer c = whole_is_accepted c.args.bytes.now c.in-Ok-Whole.context (rw c.in-Ok-Whole.field-0-is at c.in-Ok-Whole.ensures)

pub returns-in-Ok-Whole-clause-only : goal.returns-in-Ok-Whole-clause-only
returns-in-Ok-Whole-clause-only c = whole_is_only c.args.bytes.now c.in-Ok-Whole.context (rw c.in-Ok-Whole.field-0-is at c.in-Ok-Whole.ensures)

pub returns-in-Ok-Whole-clause-first_bad : goal.returns-in-Ok-Whole-clause-first_bad
returns-in-Ok-Whole-clause-first_bad c = whole_is_not_bad c.args.bytes.now c.in-Ok-Whole.context (rw c.in-Ok-Whole.field-0-is at c.in-Ok-Whole.ensures)

pub returns-in-Ok-Bad-clause-answer : goal.returns-in-Ok-Bad-clause-answer
returns-in-Ok-Bad-clause-answer c = bad_is_first c.args.bytes.now c.in-Ok-Bad.line c.in-Ok-Bad.reason (rw c.in-Ok-Bad.field-0-is at c.in-Ok-Bad.ensures)

pub returns-in-Ok-Bad-clause-only : goal.returns-in-Ok-Bad-clause-only
returns-in-Ok-Bad-clause-only c = bad_is_not_accepted c.args.bytes.now c.in-Ok-Bad.line c.in-Ok-Bad.reason (rw c.in-Ok-Bad.field-0-is at c.in-Ok-Bad.ensures)

pub returns-in-Ok-Bad-clause-first_bad : goal.returns-in-Ok-Bad-clause-first_bad
returns-in-Ok-Bad-clause-first_bad c = bad_is_only c.args.bytes.now c.in-Ok-Bad.line c.in-Ok-Bad.reason (rw c.in-Ok-Bad.field-0-is at c.in-Ok-Bad.ensures)
