use Rattle.std.proofs.Common.{◌≡◌, ◌∙◌, refl, sym, Option, Some, None}
use Rattle.state_rows.specs.MessageChanges.{number_of}
use Rattle.state_rows.specs.MessageRows.{messages_at}
use Rattle.state_rows.specs.ServerRows.{linked_at}
use Rattle.state_rows.specs.declared.messages.Message.{Message}
use Rattle.plain_reads.proofs.Work.{link_first}
use Rattle.kernel_tables.proofs.work.first_of.Goals as goal

-- what has no number is no message
no_number : (x : Option Message) → number_of x ≡ None → x ≡ None
no_number None e = refl
no_number (Some message) e = absurd (cc)

pub returns-in-Some-next_link : goal.returns-in-Some-next_link
returns-in-Some-next_link g c =
    let tables = c.args.tables.now in
    sym (link_first (messages_at tables.messages c.args.server) (linked_at tables.servers c.args.server) c.args.server c.in-Some-next_link.session
    (no_number _ (sym c.first_of.ensures.first ∙ c.in_default.is))
    (sym c.next_link.ensures.first ∙ c.in-Some-next_link.is))
