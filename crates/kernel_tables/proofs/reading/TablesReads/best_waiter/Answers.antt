use Rattle.std.proofs.Common.{◌∙◌}
use Rattle.kernel_tables.proofs.LockRows.{best_same}
use Rattle.kernel_tables.proofs.reading.TablesReads.best_waiter.Goals as goal

pub returns : goal.returns
returns g c = c.best_at.ensures ∙ best_same c.args.self.now c.args.object c.requires.tied
