use Rattle.std.proofs.Common.{List, sym, subst}
use Rattle.sym_base.specs.declared.number.ObjNo.{ObjNo}
use Rattle.machine.specs.Arrivals.{one_of}
use Rattle.kernel_tables.specs.ReadyQueues.{AreReady, leave}
use Rattle.kernel_tables.specs.StateOf.{state_of}
use Rattle.kernel_tables.proofs.ReadyLists.{leave_append}
use Rattle.kernel_tables.proofs.ready.leave_touched.Goals as goal

pub returns-clause-queues : goal.returns-clause-queues
returns-clause-queues g c = λ rank qs h.
    let S = state_of c.args.tables.now in
    let first = one_of c.args.touched.first in
    subst (λ (l : List ObjNo). AreReady rank l c.leave-2.new.ready)
    (sym (leave_append c.args.script.now S first (one_of c.args.touched.second) qs))
    (c.leave-2.ensures.queues rank (leave c.args.script.now S first qs) (c.leave.ensures.queues rank qs h))
