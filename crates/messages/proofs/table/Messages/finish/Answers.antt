use Rattle.messages.proofs.Queueing.{messages_gone}
use Rattle.messages.proofs.Seen.{alike_found, rows_gone, seen_of, seen_there}
use Rattle.std.specs.Prelude.{Some}
use Rattle.messages.proofs.table.Messages.finish.Goals as goal

pub unreachable-requires : goal.unreachable-requires
unreachable-requires c =
    seen_there c.args.m c.self.inside.records.stored c.find.result c.find.ensures.found (rw (← c.self.view_is) at c.requires) c.in_default.is

pub invariant_of-self : goal.invariant_of-self
invariant_of-self c =
    let alike = alike_found c.args.m c.self.inside.records.stored c.in-Some.field-0 c.in-Some.ensures.found c.in-Some.ensures.under.alike in
    rw (c.remove.ensures, c.leave.ensures, c.leave-2.ensures)
    (messages_gone c.self.inside.objects c.self.inside.accepted c.self.inside.records c.self.inside.outstanding
    c.self.inside.untaken c.self.invariant c.args.m c.in-Some.field-0.key alike)

pub returns-clause-finished : goal.returns-clause-finished
returns-clause-finished c =
    rw (← c.self.view_is, seen_of c.args.m c.self.inside.records.stored (Some c.in-Some.field-0) c.in-Some.ensures.found) c.finished_of.ensures

pub returns-clause-gone : goal.returns-clause-gone
returns-clause-gone c =
    rw (← c.self.view_is, c.remove.ensures, c.leave.ensures)
    (rows_gone c.args.m c.in-Some.field-0.key c.self.inside.pool c.self.inside.accepted c.self.inside.records
    c.self.inside.outstanding)
