use Rattle.std.proofs.Common.{refl, sym, ap, ◌∙◌}
use Rattle.std.specs.Prelude.{List, Option, slice_get}
use Rattle.sym_base.specs.declared.number.MsgNo.{MsgNo}
use Rattle.links.proofs.Marks.{held_at}
use Rattle.state_rows.specs.declared.messages.Message.{Message}
use Rattle.state_rows.specs.MessageRows.{waits_at}
use Rattle.state_rows.specs.MessageChanges.{number_of, taken, taken_row}
use Rattle.messages.specs.Queued.{rows_of}
use Rattle.messages.proofs.Queueing.{messages_taken, where_stands}
use Rattle.messages.proofs.Seen.{seen_edited, seen_first, seen_none, seen_some}
use Rattle.messages.proofs.table.Messages.take_next.Goals as goal

pub returns-in_err-key-clause-first : goal.returns-in_err-key-clause-first
returns-in_err-key-clause-first c =
    let none = seen_none (waits_at c.args.server.0) c.self.inside.records.stored
    (sym (rw (c.self.invariant.waiting.listed c.args.server.0) at c.in_err-key.ensures.first)) in
    rw (← c.self.view_is) (c.from_residual.ensures ∙ sym (ap (λ (messages : List Message). number_of (slice_get messages 0)) none))

pub returns-in_err-key-clause-none : goal.returns-in_err-key-clause-none
returns-in_err-key-clause-none c =
    let none = seen_none (waits_at c.args.server.0) c.self.inside.records.stored
    (sym (rw (c.self.invariant.waiting.listed c.args.server.0) at c.in_err-key.ensures.first)) in
    rw (← c.self.view_is) (λ is. none, λ empty. rw c.from_residual.ensures refl)

pub returns-in_err-key-clause-taken : goal.returns-in_err-key-clause-taken
returns-in_err-key-clause-taken c =
    let none = seen_none (waits_at c.args.server.0) c.self.inside.records.stored
    (sym (rw (c.self.invariant.waiting.listed c.args.server.0) at c.in_err-key.ensures.first)) in
    rw (← c.self.view_is) (sym (ap (λ (messages : List Message). taken
    (rows_of c.self.inside.pool c.self.inside.accepted c.self.inside.records c.self.inside.outstanding)
    (number_of (slice_get messages 0))) none))

pub unlink-requires-clause-linked : goal.unlink-requires-clause-linked
unlink-requires-clause-linked c =
    held_at c.self.inside.untaken.lists c.args.server.0 0 c.in_ok-key.key (sym c.in_ok-key.ensures.first)

pub message-message-requires : goal.message-message-requires
message-message-requires c =
    where_stands (waits_at c.args.server.0) c.in_ok-key.key c.self.inside.records.stored
    (sym (rw (c.self.invariant.waiting.listed c.args.server.0) at c.in_ok-key.ensures.first))

pub invariant_of-self : goal.invariant_of-self
invariant_of-self c =
    rw (c.unlink.ensures.unlinked, c.set_row.ensures)
    (messages_taken c.self.inside.objects c.self.inside.accepted c.self.inside.records c.self.inside.outstanding
    c.self.inside.untaken c.self.invariant (record { key = c.in_ok-key.key; message = c.message-message.result })
    (taken_row c.message-message.result.row) c.message-message.ensures.same refl refl)

pub returns-clause-first : goal.returns-clause-first
returns-clause-first c =
    rw (← c.self.view_is) (seen_first (waits_at c.args.server.0)
    (record { key = c.in_ok-key.key; message = c.message-message.result }) c.self.inside.records.stored
    (sym (rw (c.self.invariant.waiting.listed c.args.server.0) at c.in_ok-key.ensures.first))
    c.message-message.ensures.same)

pub returns-clause-none : goal.returns-clause-none
returns-clause-none c =
    rw (← c.self.view_is) (seen_some (waits_at c.args.server.0)
    (record { key = c.in_ok-key.key; message = c.message-message.result }) c.self.inside.records.stored
    (sym (rw (c.self.invariant.waiting.listed c.args.server.0) at c.in_ok-key.ensures.first))
    c.message-message.ensures.same)

pub returns-clause-taken : goal.returns-clause-taken
returns-clause-taken c =
    let first = seen_first (waits_at c.args.server.0)
    (record { key = c.in_ok-key.key; message = c.message-message.result }) c.self.inside.records.stored
    (sym (rw (c.self.invariant.waiting.listed c.args.server.0) at c.in_ok-key.ensures.first))
    c.message-message.ensures.same in
    let rows = rows_of c.self.inside.pool c.self.inside.accepted c.self.inside.records c.self.inside.outstanding in
    let edited = seen_edited c.message-message.result.number taken_row
    (record { key = c.in_ok-key.key; message = c.message-message.result }) c.self.inside.records.stored
    c.message-message.ensures.alike c.message-message.ensures.same in
    rw (← c.self.view_is, c.set_row.ensures)
    (ap (λ (messages : List Message). record rows { outstanding = messages }) edited
    ∙ ap (λ (m : Option MsgNo). taken rows m) first)
