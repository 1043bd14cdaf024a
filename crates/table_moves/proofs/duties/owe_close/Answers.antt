use Rattle.std.proofs.Common.{◌∙◌, [], ◌∷◌, ap}
use Rattle.state_rows.specs.declared.duty.Owed.TheVariants.{Sweep}
use Rattle.machine.specs.Moves.{owed_link}
use Rattle.table_moves.specs.Noted.{with_duties}
use Rattle.table_moves.proofs.Noting.{owing_both}
use Rattle.table_moves.proofs.duties.owe_close.Goals as goal

pub returns-then-last : goal.returns-then-last
returns-then-last c =
    let old = c.args.cleanup.now in
    let both = owing_both old.duties c.args.thread (owed_link c.args.object c.args.link) (Sweep c.args.object ∷ []) in
    rw c.if-last.true (c.owe.ensures ∙ rw c.owe_link.ensures (ap (with_duties old) both))
