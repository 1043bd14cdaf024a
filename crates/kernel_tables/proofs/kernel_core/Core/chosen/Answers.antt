use Rattle.kernel_tables.proofs.kernel_core.Core.chosen.Goals as goal

pub returns : goal.returns
returns g c = rw (← c.self.view_is) c.chosen.ensures
