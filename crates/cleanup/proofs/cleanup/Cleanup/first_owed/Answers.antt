use Rattle.links.proofs.Marks.{none_first}
use Rattle.cleanup.proofs.cleanup.Cleanup.first_owed.Goals as goal

pub returns-clause-none : goal.returns-clause-none
returns-clause-none c = rw (← c.self.view_is) (none_first _ c.first.result c.first.ensures)
