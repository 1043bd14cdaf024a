use Rattle.std.proofs.Common.{◌∙◌}
use Rattle.kernel_tables.specs.StateOf.{state_of}
use Rattle.kernel_tables.proofs.Finds.{found_is}
use Rattle.kernel_tables.proofs.reading.TablesReads.find.Goals as goal

pub returns : goal.returns
returns g c = c.find.ensures ∙ found_is (state_of c.args.self.now) c.args.self.now.objects.counts c.args.kind c.args.name.now c.requires.counts
