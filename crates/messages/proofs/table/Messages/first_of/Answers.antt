use Rattle.std.proofs.Common.{length, refl, sym, ap, ◌∙◌, arith}
use Rattle.std.specs.Prelude.{List, slice_get}
use Rattle.state_rows.specs.declared.messages.Message.{Message}
use Rattle.state_rows.specs.MessageRows.{is_at}
use Rattle.state_rows.specs.MessageChanges.{number_of}
use Rattle.messages.proofs.Queueing.{where_stands}
use Rattle.messages.proofs.Seen.{past_none, seen_first, seen_none, seen_some}
use Rattle.messages.proofs.table.Messages.first_of.Goals as goal

pub returns-in_err-key-clause-first : goal.returns-in_err-key-clause-first
returns-in_err-key-clause-first c =
    let none = seen_none (is_at c.args.server.0) c.self.inside.records.stored
    (sym (rw (c.self.invariant.all.listed c.args.server.0) at c.in_err-key.ensures.first)) in
    rw (← c.self.view_is) (c.from_residual.ensures ∙ sym (ap (λ (messages : List Message). number_of (slice_get messages 0)) none))

pub returns-in_err-key-clause-none : goal.returns-in_err-key-clause-none
returns-in_err-key-clause-none c =
    let none = seen_none (is_at c.args.server.0) c.self.inside.records.stored
    (sym (rw (c.self.invariant.all.listed c.args.server.0) at c.in_err-key.ensures.first)) in
    rw (← c.self.view_is) (λ is. none, λ empty. rw c.from_residual.ensures refl)

pub message-requires : goal.message-requires
message-requires c =
    where_stands (is_at c.args.server.0) c.in_ok-key.key c.self.inside.records.stored
    (sym (rw (c.self.invariant.all.listed c.args.server.0) at c.in_ok-key.ensures.first))

pub returns-clause-first : goal.returns-clause-first
returns-clause-first c =
    rw (← c.self.view_is) (seen_first (is_at c.args.server.0)
    (record { key = c.in_ok-key.key; message = c.message.result }) c.self.inside.records.stored
    (sym (rw (c.self.invariant.all.listed c.args.server.0) at c.in_ok-key.ensures.first)) c.message.ensures.same)

pub returns-clause-none : goal.returns-clause-none
returns-clause-none c =
    rw (← c.self.view_is) (seen_some (is_at c.args.server.0)
    (record { key = c.in_ok-key.key; message = c.message.result }) c.self.inside.records.stored
    (sym (rw (c.self.invariant.all.listed c.args.server.0) at c.in_ok-key.ensures.first)) c.message.ensures.same)

pub returns-then-server-self-clause-first : goal.returns-then-server-self-clause-first
returns-then-server-self-clause-first c =
    let none = past_none is_at c.self.inside.records
    (length c.self.inside.outstanding.lists) c.args.server.0 c.self.inside.outstanding c.self.invariant.all
    (omega (arith, c.self.invariant.sized, c.if-server-self.true)) in
    rw (← c.self.view_is) (sym (ap (λ (messages : List Message). number_of (slice_get messages 0)) none))

pub returns-then-server-self-clause-none : goal.returns-then-server-self-clause-none
returns-then-server-self-clause-none c =
    let none = past_none is_at c.self.inside.records
    (length c.self.inside.outstanding.lists) c.args.server.0 c.self.inside.outstanding c.self.invariant.all
    (omega (arith, c.self.invariant.sized, c.if-server-self.true)) in
    rw (← c.self.view_is) (λ is. none, λ empty. refl)
