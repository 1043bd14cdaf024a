use Rattle.std.proofs.Common.{sym, ◌∙◌}
use Rattle.std.specs.Prelude.{Some, None}
use Rattle.messages.proofs.Seen.{seen_of}
use Rattle.messages.proofs.table.Messages.message.Goals as goal

pub returns-in_err-stored : goal.returns-in_err-stored
returns-in_err-stored c =
    rw (← c.self.view_is) (c.from_residual.ensures ∙ sym (seen_of c.args.m c.self.inside.records.stored None c.in_err-stored.ensures.found))

pub returns : goal.returns
returns c =
    rw (← c.self.view_is) (sym (seen_of c.args.m c.self.inside.records.stored (Some c.in_ok-stored.stored) c.in_ok-stored.ensures.found))
