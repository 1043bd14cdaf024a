use Rattle.std.proofs.Common.{length}
use Rattle.state_rows.specs.MessageRows.{is_at, waits_at}
use Rattle.messages.proofs.Queueing.{queued_free}
use Rattle.messages.proofs.table.Messages.add.Goals as goal

pub push_back-requires-clause-free : goal.push_back-requires-clause-free
push_back-requires-clause-free c =
    queued_free is_at c.self.inside.records
    (length c.self.inside.outstanding.lists) c.self.inside.outstanding c.self.invariant.all c.add-key.result
    c.add-key.ensures.fresh

pub push_back-requires-2-clause-free : goal.push_back-requires-2-clause-free
push_back-requires-2-clause-free c =
    queued_free waits_at c.self.inside.records
    (length c.self.inside.outstanding.lists) c.self.inside.untaken c.self.invariant.waiting c.add-key.result
    c.add-key.ensures.fresh
