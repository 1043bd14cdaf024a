use Rattle.std.proofs.Common.{◌≤◌, length, sym, ap, ◌∙◌, arith}
use Rattle.std.specs.Prelude.{List, slice_get}
use Rattle.state_rows.specs.declared.messages.Message.{Message}
use Rattle.state_rows.specs.MessageRows.{waits_at}
use Rattle.state_rows.specs.MessageChanges.{number_of}
use Rattle.messages.proofs.Queueing.{where_stands}
use Rattle.messages.specs.declared.records.Stored.{Stored}
use Rattle.messages.specs.Kept.{has_key}
use Rattle.messages.proofs.Seen.{found_all, past_none, seen_first, seen_none}
use Rattle.messages.proofs.table.Messages.next_untaken.Goals as goal

pub returns-then-server-self-clause-next : goal.returns-then-server-self-clause-next
returns-then-server-self-clause-next c =
    let none = past_none waits_at c.self.inside.records
    (length c.self.inside.outstanding.lists) c.args.server.0 c.self.inside.untaken c.self.invariant.waiting
    (omega (arith, c.self.invariant.sized, c.if-server-self.true)) in
    rw (← c.self.view_is) (sym (ap (λ (messages : List Message). number_of (slice_get messages 0)) none))

pub returns-in_err-next-clause-next : goal.returns-in_err-next-clause-next
returns-in_err-next-clause-next c =
    let none = seen_none (waits_at c.args.server.0) c.self.inside.records.stored
    (sym (rw (c.self.invariant.waiting.listed c.args.server.0) at c.in_err-next.ensures.first)) in
    rw (← c.self.view_is) (c.from_residual.ensures ∙ sym (ap (λ (messages : List Message). number_of (slice_get messages 0)) none))

pub message-requires : goal.message-requires
message-requires c =
    where_stands (waits_at c.args.server.0) c.in_ok-next.next c.self.inside.records.stored
    (sym (rw (c.self.invariant.waiting.listed c.args.server.0) at c.in_ok-next.ensures.first))

pub returns-clause-next : goal.returns-clause-next
returns-clause-next c =
    rw (← c.self.view_is) (seen_first (waits_at c.args.server.0)
    (record { key = c.in_ok-next.next; message = c.message.result }) c.self.inside.records.stored
    (sym (rw (c.self.invariant.waiting.listed c.args.server.0) at c.in_ok-next.ensures.first)) c.message.ensures.same)

pub returns-clause-given : goal.returns-clause-given
returns-clause-given c =
    rw (← c.self.view_is) (found_all (λ (one : Stored). one.message.number.0 ≤ c.self.inside.accepted)
    (has_key c.in_ok-next.next) c.self.inside.records.stored
    (record { key = c.in_ok-next.next; message = c.message.result }) c.message.ensures.stands c.self.invariant.numbers)
