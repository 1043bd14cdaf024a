use Rattle.machine.proofs.HandleNumbers.{look_small}
use Rattle.kernel_tables.proofs.Slots.{index_few}
use Rattle.kernel_tables.proofs.reading.TablesReads.handle.Goals as goal

pub returns-clause-index : goal.returns-clause-index
returns-clause-index g c = index_few c.is_local.result c.slots_of.result.now c.args.handle c.look.result c.look.ensures c.slots_of.ensures.few

pub returns-clause-positive : goal.returns-clause-positive
returns-clause-positive g c = look_small c.is_local.result c.slots_of.result.now c.args.handle c.look.result c.look.ensures c.slots_of.ensures.instances
