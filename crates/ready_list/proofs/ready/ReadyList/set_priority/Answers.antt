use Rattle.ready_list.proofs.Threads.{removed_unready}
use Rattle.ready_list.proofs.ready.ReadyList.set_priority.Goals as goal

pub add-requires-clause-fresh : goal.add-requires-clause-fresh
add-requires-clause-fresh c = rw c.remove.ensures (removed_unready c.args.self.now.queues c.args.t)
