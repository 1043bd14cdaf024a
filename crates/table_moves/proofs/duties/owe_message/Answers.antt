use Rattle.std.proofs.Common.{◌∙◌, [], ◌∷◌, ap}
use Rattle.entry_log.specs.declared.effect.Holder.TheVariants.{Message}
use Rattle.state_rows.specs.declared.duty.Owed.TheVariants.{Close}
use Rattle.table_moves.specs.Noted.{with_duties}
use Rattle.table_moves.proofs.Noting.{owing_both}
use Rattle.table_moves.proofs.duties.owe_message.Goals as goal

pub returns : goal.returns
returns c =
    let old = c.args.cleanup.now in
    let both = owing_both old.duties c.args.thread (Close (Message c.args.number) c.args.session ∷ []) (Close (Message c.args.number) c.args.client ∷ []) in
    c.owe-2.ensures ∙ rw c.owe.ensures (ap (with_duties old) both)
