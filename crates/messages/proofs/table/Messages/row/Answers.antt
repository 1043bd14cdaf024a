use Rattle.std.proofs.Common.{sym, ap, ◌∙◌}
use Rattle.std.specs.Prelude.{Some, None, option_map}
use Rattle.state_rows.specs.declared.messages.Message.{Message}
use Rattle.messages.proofs.Seen.{seen_of}
use Rattle.messages.proofs.table.Messages.row.Goals as goal

pub returns-in_err-stored : goal.returns-in_err-stored
returns-in_err-stored c =
    rw (← c.self.view_is) (c.from_residual.ensures
    ∙ sym (ap (option_map (λ (message : Message). message.row))
    (seen_of c.args.m c.self.inside.records.stored None c.in_err-stored.ensures.found)))

pub returns : goal.returns
returns c =
    rw (← c.self.view_is) (sym (ap (option_map (λ (message : Message). message.row))
    (seen_of c.args.m c.self.inside.records.stored (Some c.in_ok-stored.stored) c.in_ok-stored.ensures.found)))
