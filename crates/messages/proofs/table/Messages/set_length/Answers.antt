use Rattle.std.proofs.Common.{refl, ap}
use Rattle.std.specs.Prelude.{List}
use Rattle.state_rows.specs.declared.messages.Message.{Message}
use Rattle.state_rows.specs.MessageChanges.{resized}
use Rattle.messages.specs.Queued.{rows_of}
use Rattle.messages.proofs.Queueing.{messages_edited}
use Rattle.messages.proofs.Seen.{alike_found, seen_edited, seen_there}
use Rattle.messages.proofs.table.Messages.set_length.Goals as goal

pub unreachable-requires : goal.unreachable-requires
unreachable-requires c =
    seen_there c.args.m c.self.inside.records.stored c.find.result c.find.ensures.found (rw (← c.self.view_is) at c.requires.outstanding) c.in_default.is

pub invariant_of-self : goal.invariant_of-self
invariant_of-self c =
    rw c.set_row.ensures (messages_edited c.self.inside.objects c.self.inside.accepted c.self.inside.records
    c.self.inside.outstanding c.self.inside.untaken c.self.invariant c.in-Some.field-0 _ c.in-Some.ensures.under.same
    refl refl)

pub returns : goal.returns
returns c =
    let rows = rows_of c.self.inside.pool c.self.inside.accepted c.self.inside.records c.self.inside.outstanding in
    let alike = alike_found c.args.m c.self.inside.records.stored c.in-Some.field-0 c.in-Some.ensures.found c.in-Some.ensures.under.alike in
    let edited = seen_edited c.args.m (resized c.args.arg c.args.length) c.in-Some.field-0 c.self.inside.records.stored alike c.in-Some.ensures.under.same in
    rw (← c.self.view_is, c.set_row.ensures, c.with_length.ensures) (ap (λ (messages : List Message). record rows { outstanding = messages }) edited)
