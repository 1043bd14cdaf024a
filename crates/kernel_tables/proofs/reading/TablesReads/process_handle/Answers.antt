use Rattle.std.proofs.Common.{[], get_or}
use Rattle.kernel_tables.specs.StateOf.{slots_of}
use Rattle.kernel_tables.proofs.Slots.{free_inside}
use Rattle.kernel_tables.proofs.reading.TablesReads.process_handle.Goals as goal

pub process_handle-requires-clause-inside : goal.process_handle-requires-clause-inside
process_handle-requires-clause-inside g c =
    rw (c.slots_of.ensures.slots, c.free_index_of-free.ensures)
    (free_inside (get_or (slots_of c.args.self.now.handles) c.args.process.0 []))
